use Rattle.std.proofs.Common.{◌≡◌, ◌++◌, drop, filter}
use Rattle.mx_snapshot.specs.Looks.{all_now}
use Rattle.mx_parts.specs.Picks.{is_sent_by}
use Rattle.mx_parts.proofs.state.among.Given as goal

abbrev pub invariant-states : goal.invariant-states
invariant-states l = all_now l.made.items ++ filter (is_sent_by l.reading l.picker l.position) (all_now (drop l.state-index l.states)) ≡ filter (is_sent_by l.reading l.picker l.position) (all_now l.states)
