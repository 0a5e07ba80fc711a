use Rattle.std.proofs.Common.{◌≡◌, [], fold, map, nat_cmp}
use Rattle.mx_fold.specs.Latest.{latest}
use Rattle.mx_sync_json.specs.Groups.{event_now}
use Rattle.mx_sync_json.specs.Receipts.{event_at, itself, with_event}
use Rattle.mx_sync_json.proofs.receipts.content_form.Given as goal

abbrev pub invariant-events : goal.invariant-events
invariant-events l =
    (goal.iterator-events).can_next l.at-iterator
    × (goal.iterator-events).is_finite l.at-iterator
    × (fold (with_event l.server l.receipts) l.members (map event_now l.at-iterator) ≡ fold (with_event l.server l.receipts) []
    (latest nat_cmp event_at itself l.receipts))
