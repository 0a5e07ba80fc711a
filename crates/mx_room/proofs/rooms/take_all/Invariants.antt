use Rattle.std.proofs.Common.{◌≡◌, ◌+◌}
use Rattle.mx_room.proofs.Standing.{taken_to}
use Rattle.mx_room.proofs.rooms.take_all.Given as goal

abbrev pub invariant-events : goal.invariant-events
invariant-events l = (l.state ≡ taken_to l.fn.state l.first l.events l.event-index) × (l.at ≡ l.first + l.event-index)
