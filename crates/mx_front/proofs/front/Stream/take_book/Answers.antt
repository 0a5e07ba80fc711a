use Rattle.std.proofs.Common.{rules}
use Rattle.mx_front.proofs.Seats.{has_rest}
use Rattle.mx_front.proofs.front.Stream.take_book.Goals as goal

pub exchange-requires : goal.exchange-requires
exchange-requires g c = (search rules, (_, has_rest _ _ c.requires.book.1))
