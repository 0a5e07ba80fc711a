use denote.Param.Send.{sendable}
use Rattle.mx_snapshot.proofs.Crosses.{send, sync}
use Rattle.mx_snapshot.proofs.laws.snapshots_cross_threads.Goals as goal

pub crosses_threads-requires-send-T : goal.crosses_threads-requires-send-T
crosses_threads-requires-send-T c κs = search (send, sendable) depth 10

pub crosses_threads-requires-sync-T : goal.crosses_threads-requires-sync-T
crosses_threads-requires-sync-T c κs = search (sync, sendable) depth 10
