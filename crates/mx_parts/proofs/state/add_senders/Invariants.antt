use Rattle.std.proofs.Common.{◌≡◌, ◌++◌, drop, map}
use Rattle.mx_snapshot.specs.Looks.{all_now}
use Rattle.mx_parts.specs.Picks.{key_pair, sender_pair}
use Rattle.mx_parts.proofs.state.add_senders.Given as goal

abbrev pub invariant-events : goal.invariant-events
invariant-events l = map key_pair l.keys.items ++ map sender_pair (all_now (drop l.event-index l.events)) ≡ map key_pair l.fn.keys.items ++ map sender_pair (all_now l.events)
