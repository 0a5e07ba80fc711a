use Rattle.std.proofs.Common.{nat_eq, ◌&&◌, ap}
use Rattle.mx_ids.specs.declared.room_id.RoomId.{RoomId}
use Rattle.tests_reads.proofs.unread.event.Goals as goal

pub returns-clause-here : goal.returns-clause-here
returns-clause-here g c = ap (λ (r : RoomId). nat_eq r.writer 0 && nat_eq r.at 1) c.event.ensures.here
