use Rattle.std.proofs.Common.{rules}
use Rattle.mx_front.proofs.Openings.{opens_with}
use Rattle.mx_front.proofs.start.open.Goals as goal

pub new-made-requires : goal.new-made-requires
new-made-requires g c = opens_with _ _ _ c.in_ok-book.book (search rules) c.in_ok-book.ensures c.requires.writers.0 c.requires.writers.1 c.requires.stop
