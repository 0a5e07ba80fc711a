use denote.Param.Send.{sendable}
use Rattle.mx_restore.proofs.Sent.{batch_send}
use Rattle.mx_restore.proofs.restoring.Restoring.make_and_read.Goals as goal

pub join_mut-next-requires-send-A : goal.join_mut-next-requires-send-A
join_mut-next-requires-send-A g c = search (batch_send, sendable) depth 10
