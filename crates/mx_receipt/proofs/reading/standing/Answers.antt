use Rattle.std.proofs.Common.{◌≡◌, ◌∙◌, length, min, true, false, sym, ap, arith}
use Rattle.mx_window.specs.Lasts.{last_of}
use Rattle.mx_receipt.specs.Receipts.{is_for}
use Rattle.mx_receipt.proofs.Walk.{begins, one_back}
use Rattle.mx_receipt.proofs.reading.standing.Goals as goal

pub receipts-init : goal.receipts-init
receipts-init c =
    let list = c.args.list.now in
    let least : c.min-position.result ≡ min c.args.r (length list.items) = omega arith in
    (omega arith, ap (last_of (is_for c.args.room.now c.args.user.now c.args.kind)) (begins c.args.r c.min-position.result list.items c.requires least))

pub returns-then-is_for : goal.returns-then-is_for
returns-then-is_for c =
    let test = is_for c.args.room.now c.args.user.now c.args.kind in
    sym (one_back test c.args.list.now c.receipts.position c.in-Some.receipt.now true c.in-Some.ensures.item (sym c.if-is_for.true ∙ c.is_for.ensures)) ∙ c.receipts.invariant.1

pub receipts-preserved : goal.receipts-preserved
receipts-preserved c =
    let test = is_for c.args.room.now c.args.user.now c.args.kind in (
      omega arith,
      sym (one_back test c.args.list.now c.receipts.position c.in-Some.receipt.now false c.in-Some.ensures.item (sym c.if-is_for.false ∙ c.is_for.ensures)) ∙ c.receipts.invariant.1,
    )
