use Rattle.std.proofs.Common.{◌-◌, ◌+◌, ◌||◌, ◌∙◌, ap, sym, arith}
use Rattle.mx_receipt.specs.declared.receipt.Receipt.{Receipt}
use Rattle.mx_rest.specs.Servers.{lists_of}
use Rattle.mx_still.specs.Concerns.{any_receipt, has_member}
use Rattle.mx_still.proofs.Late.{earlier}
use Rattle.mx_still.proofs.still.any_receipt.Goals as goal

pub returns-then-receipt_concerns : goal.returns-then-receipt_concerns
returns-then-receipt_concerns c =
    let lists = lists_of c.args.snapshot.now in
    sym (earlier (λ (x : Receipt). has_member c.args.user.now lists x.room) c.args.low (c.receipts.passed - 1) lists.receipts (omega arith)
    (sym c.receipt_concerns.ensures ∙ ap (λ b. b || any_receipt c.args.user.now lists (c.receipts.passed - 1 + 1)) c.if-receipt_concerns.true))
