use Rattle.std.proofs.Common.{◌≡◌, ◌++◌, drop, filter}
use Rattle.mx_snapshot.specs.Looks.{all_now}
use Rattle.mx_parts.specs.Picks.{is_kept_by}
use Rattle.mx_parts.proofs.state.kept_among.Given as goal

abbrev pub invariant-states : goal.invariant-states
invariant-states l = all_now l.made.items ++ filter (is_kept_by l.reading l.picker) (all_now (drop l.state-index l.states)) ≡ filter (is_kept_by l.reading l.picker) (all_now l.states)
