use Rattle.mx_unread.proofs.Cached.{kept}
use Rattle.mx_unread.proofs.held.Held.keep.Goals as goal

pub returns-then-is_ok : goal.returns-then-is_ok
returns-then-is_ok c = λ s all stands. kept s c.put.result c.args.self.now.cache c.put.new.self c.args.key c.args.used c.put.ensures.entries c.put.ensures.err c.requires all stands
