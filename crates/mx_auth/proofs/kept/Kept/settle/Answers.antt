use Rattle.mx_auth.proofs.Next.{next_kept}
use Rattle.mx_auth.proofs.kept.Kept.settle.Goals as goal

pub returns-clause-kept : goal.returns-clause-kept
returns-clause-kept c = λ e es is about whose stands kept.
    next_kept c.args.self.now c.set.new.self c.next-self.result c.put.new.self es e c.args.change c.args.key.now c.args.sender.now c.args.at c.next-self.ensures c.put.ensures.items c.set.ensures is about whose stands kept
