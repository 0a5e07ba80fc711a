use Rattle.std.proofs.Common.{◌≡◌}
use Rattle.mx_ids.specs.declared.room_id.RoomId.{RoomId}
use Rattle.mx_sync.specs.Candidates.{has_or_receipt}
use Rattle.mx_sync.proofs.candidates.add_receipts.Given as goal

abbrev pub invariant-receipts : goal.invariant-receipts
invariant-receipts l = (r : RoomId) → has_or_receipt l.snapshot.receipts l.rooms l.passed r ≡ has_or_receipt l.snapshot.receipts l.fn.rooms l.after r
