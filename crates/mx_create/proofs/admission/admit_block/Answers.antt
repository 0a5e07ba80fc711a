use Rattle.std.proofs.Common.{}
use Rattle.mx_create.proofs.Admitting.{are_new}
use Rattle.mx_create.proofs.admission.admit_block.Goals as goal

pub ready_room-requires-clause-new : goal.ready_room-requires-clause-new
ready_room-requires-clause-new c = are_new _ _ _ _ c.requires.block c.writer.ensures c.in_ok-events.ensures
