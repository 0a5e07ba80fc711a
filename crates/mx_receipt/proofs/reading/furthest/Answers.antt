use Rattle.std.proofs.Common.{◌≡◌, ◌∙◌, length, min, ap, arith}
use Rattle.mx_receipt.specs.Receipts.{furthest_in}
use Rattle.mx_receipt.proofs.Walk.{begins, one_further}
use Rattle.mx_receipt.proofs.reading.furthest.Goals as goal

pub receipts-init : goal.receipts-init
receipts-init c =
    let list = c.args.list.now in
    let least : c.min-position.result ≡ min c.args.r (length list.items) = omega arith in
    (omega arith, omega (arith, ap (furthest_in c.args.room.now c.args.user.now) (begins c.args.r c.min-position.result list.items c.requires least)))

pub receipts-preserved : goal.receipts-preserved
receipts-preserved c = (
  omega arith,
  one_further c.args.room.now c.args.user.now c.args.list.now c.receipts.position c.receipts.event c.event_after-event.result c.in-Some.receipt.now c.in-Some.ensures.item c.event_after-event.ensures ∙ c.receipts.invariant.1,
)
