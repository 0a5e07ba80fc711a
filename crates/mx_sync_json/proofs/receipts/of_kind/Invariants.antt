use Rattle.std.proofs.Common.{◌≡◌, ◌++◌, drop, filter}
use Rattle.mx_snapshot.specs.Looks.{all_now}
use Rattle.mx_sync_json.specs.Receipts.{is_kind}
use Rattle.mx_sync_json.proofs.receipts.of_kind.Given as goal

abbrev pub invariant-receipts : goal.invariant-receipts
invariant-receipts l =
    all_now l.made.items ++ filter (is_kind l.kind) (all_now (drop l.receipt-index l.receipts)) ≡ filter (is_kind l.kind) (all_now l.receipts)
