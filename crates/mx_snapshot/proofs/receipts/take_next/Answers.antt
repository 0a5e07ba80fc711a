use Rattle.std.proofs.Common.{OnOk, subst, sym}
use Rattle.mx_snapshot.specs.Receipts.{IsIndexed}
use Rattle.mx_snapshot.proofs.Found.{take_next}
use Rattle.mx_snapshot.proofs.receipts.take_next.Goals as goal

pub returns-in-Some : goal.returns-in-Some
returns-in-Some c =
    subst (λ l. OnOk c.take_in.result (IsIndexed c.take_in.new.self l)) (take_next c.args.receipts.now.items c.args.passed c.in-Some.receipt.now (sym c.in-Some.ensures.item)) (c.take_in.ensures _ c.requires.indexed)
