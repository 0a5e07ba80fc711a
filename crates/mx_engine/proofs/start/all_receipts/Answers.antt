use Rattle.mx_engine.proofs.Fresh.{one_fold_more}
use Rattle.mx_engine.proofs.start.all_receipts.Goals as goal

pub writers-preserved : goal.writers-preserved
writers-preserved g c =
    one_fold_more g.G.Receipts.Folds.writer g.G.Receipts.Folds.own c.writers.writer c.writers.all c.push.new.self c.in_ok-receipts.field-0 c.writers.invariant
    c.in_ok-receipts.ensures.0 c.in_ok-receipts.ensures.1 c.in_ok-push.ensures.ok
