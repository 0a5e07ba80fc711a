use Rattle.mx_sync_json.proofs.Grouped.{some_events}
use Rattle.mx_sync_json.proofs.receipts.receipt_events.Goals as goal

pub returns : goal.returns
returns c =
    some_events c.args.server.now c.args.receipts.now c.is_empty.result c.in_ok-content.content c.in_ok-event.event c.new-made.result.items c.push.new.self.items c.is_empty.ensures
    c.if-is_empty.false c.in_ok-content.ensures c.in_ok-event.ensures c.new-made.ensures.items c.in_ok-push.ensures.items
