use Rattle.std.proofs.Common.{◌≡◌, [], drop, fold}
use Rattle.mx_snapshot.specs.Looks.{all_now}
use Rattle.mx_sync_json.specs.Receipts.{with_mark}
use Rattle.mx_sync_json.proofs.receipts.users_form.Given as goal

abbrev pub invariant-receipts : goal.invariant-receipts
invariant-receipts l = fold with_mark l.members (all_now (drop l.receipt-index l.receipts)) ≡ fold with_mark [] (all_now l.receipts)
