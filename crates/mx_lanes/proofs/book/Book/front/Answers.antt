use Rattle.std.proofs.Common.{subst}
use Rattle.mx_core.specs.Front.{IsFront}
use Rattle.mx_lanes.specs.Held.{Held}
use Rattle.mx_lanes.proofs.Books.{book_front}
use Rattle.mx_lanes.proofs.book.Book.front.Goals as goal

pub returns-clause-front : goal.returns-clause-front
returns-clause-front g c = subst (λ (b : Held g.row.I.Denot). IsFront b.history c.self.inside.reach.front) c.self.view_is (book_front _ _ _ _ c.self.invariant.0)
