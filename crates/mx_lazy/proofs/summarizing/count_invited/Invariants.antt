use Rattle.std.proofs.Common.{◌≡◌, ◌≤◌, ◌+◌, length, filter, drop}
use Rattle.mx_snapshot.specs.Looks.{all_now}
use Rattle.mx_lazy.specs.Summaries.{invited_by}
use Rattle.mx_lazy.proofs.summarizing.count_invited.Given as goal

abbrev pub invariant-members : goal.invariant-members
invariant-members l =
    (l.invited + length (filter invited_by (all_now (drop l.member-index l.members))) ≡ length (filter invited_by (all_now l.members)))
    × (l.invited ≤ l.member-index)
