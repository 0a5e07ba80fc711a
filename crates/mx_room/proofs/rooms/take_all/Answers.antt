use Rattle.std.proofs.Common.{arith}
use Rattle.mx_room.proofs.Standing.{taken_next}
use Rattle.mx_room.proofs.rooms.take_all.Goals as goal

pub events-preserved : goal.events-preserved
events-preserved c = (
  taken_next c.args.state.now c.events.state c.take_ready.new.self c.args.first c.events.at c.events.event-index c.args.events.now c.event-item.result c.events-test.true c.event-item.is c.events.invariant.0 c.events.invariant.1 c.take_ready.ensures,
  omega (arith, c.events.invariant.1),
)
