use Rattle.std.proofs.Common.{◌≡◌, drop, fold, map, nat_cmp}
use Rattle.mx_fold.specs.Latest.{latest, set_item}
use Rattle.mx_sync_json.specs.Groups.{event_now}
use Rattle.mx_sync_json.specs.Receipts.{event_at, itself}
use Rattle.mx_sync_json.proofs.receipts.last_of_each.Given as goal

abbrev pub invariant-receipts : goal.invariant-receipts
invariant-receipts l =
    fold (set_item nat_cmp event_at itself) (map event_now l.named.entries) (drop l.receipt-index l.receipts) ≡ latest nat_cmp event_at itself l.receipts
