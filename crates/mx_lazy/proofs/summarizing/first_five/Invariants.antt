use Rattle.std.proofs.Common.{◌≡◌, ◌≤◌, ◌++◌, length, take, map, filter, drop}
use Rattle.mx_snapshot.specs.Looks.{all_now}
use Rattle.mx_lazy.specs.Summaries.{user_of, is_hero, first_five}
use Rattle.mx_lazy.proofs.summarizing.first_five.Given as goal

abbrev pub invariant-members : goal.invariant-members
invariant-members l =
    (length l.made.items ≤ 5)
    × (take 5 (l.made.items ++ map user_of (filter (is_hero l.gone l.user) (all_now (drop l.member-index l.members)))) ≡ first_five (filter (is_hero l.gone l.user) (all_now l.members)))
