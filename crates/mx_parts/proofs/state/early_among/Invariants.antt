use Rattle.std.proofs.Common.{◌≡◌, ◌++◌, drop, filter}
use Rattle.mx_snapshot.specs.Looks.{all_now}
use Rattle.mx_parts.specs.Picks.{is_early_by}
use Rattle.mx_parts.proofs.state.early_among.Given as goal

abbrev pub invariant-states : goal.invariant-states
invariant-states l = all_now l.made.items ++ filter (is_early_by l.reading l.picker l.from) (all_now (drop l.state-index l.states)) ≡ filter (is_early_by l.reading l.picker l.from) (all_now l.states)
