use Rattle.std.proofs.Common.{◌≡◌, ◌++◌, drop}
use Rattle.mx_snapshot.specs.Looks.{all_now}
use Rattle.mx_parts.proofs.state.append.Given as goal

abbrev pub invariant-events : goal.invariant-events
invariant-events l = all_now l.made.items ++ all_now (drop l.event-index l.more) ≡ all_now l.fn.made.items ++ all_now l.more
