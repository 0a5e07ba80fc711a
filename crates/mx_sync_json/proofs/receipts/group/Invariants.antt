use Rattle.std.proofs.Common.{◌≡◌, ◌++◌, ℕ, drop}
use Rattle.mx_sync_json.specs.Groups.{list_at}
use Rattle.mx_sync_json.specs.Receipts.{of_event}
use Rattle.mx_sync_json.proofs.receipts.group.Given as goal

abbrev pub invariant-receipts : goal.invariant-receipts
invariant-receipts l = (p : ℕ) → list_at l.lists p ++ of_event p (drop l.receipt-index l.receipts) ≡ of_event p l.receipts
