use Rattle.std.proofs.Common.{◌≡◌, ◌<◌, length, get_or, sym, ap, ◌∙◌, arith}
use Rattle.std.proofs.lemmas.List.{get_or_read, length-set}
use Rattle.mx_core.specs.History.{items_of}
use Rattle.mx_lanes.specs.Held.{Held}
use Rattle.mx_lanes.proofs.Books.{book_front, has_space, space_stored}
use Rattle.mx_lanes.proofs.book.Book.store.Goals as goal

pub put_store-self-inside-requires-clause-history : goal.put_store-self-inside-requires-clause-history
put_store-self-inside-requires-clause-history g c =
    let within : c.from-holder.result < length c.self.inside.spares.items = omega (arith, ap (λ (b : Held g.row.I.Denot). length b.spare) c.self.view_is, c.from-holder.ensures, c.requires.lane) in
    let spare : c.index.result.now ≡ get_or c.self.inside.spares.items c.from-holder.result 0 = get_or_read c.self.inside.spares.items c.from-holder.result c.index.result.now within c.index.ensures 0 in
    has_space _ c.from-holder.result c.len.result _ _ (omega (arith, c.left_of.ensures, spare)) (omega (arith, c.len.ensures, c.requires.items)) c.self.invariant.1

pub put_store-self-inside-requires-clause-order : goal.put_store-self-inside-requires-clause-order
put_store-self-inside-requires-clause-order g c =
    let within : c.from-holder.result < length c.self.inside.spares.items = omega (arith, ap (λ (b : Held g.row.I.Denot). length b.spare) c.self.view_is, c.from-holder.ensures, c.requires.lane) in
    let spare : c.index.result.now ≡ get_or c.self.inside.spares.items c.from-holder.result 0 = get_or_read c.self.inside.spares.items c.from-holder.result c.index.result.now within c.index.ensures 0 in
    has_space _ c.from-holder.result c.len.result _ _ (omega (arith, c.left_of.ensures, spare)) (omega (arith, c.len.ensures, c.requires.items)) c.self.invariant.2

pub invariant_of-self : goal.invariant_of-self
invariant_of-self g c =
    let within : c.from-holder.result < length c.self.inside.spares.items = omega (arith, ap (λ (b : Held g.row.I.Denot). length b.spare) c.self.view_is, c.from-holder.ensures, c.requires.lane) in
    let spare : c.index.result.now ≡ get_or c.self.inside.spares.items c.from-holder.result 0 = get_or_read c.self.inside.spares.items c.from-holder.result c.index.result.now within c.index.ensures 0 in
    let some : 0 < c.len.result = omega (arith, c.len.ensures, c.requires.items) in
    let made = c.put_store-self-inside.ensures in (
      made.book,
      space_stored c.self.inside.spares.items c.from-holder.result c.left_of.result c.len.result _ _ _ _ within (c.left_of.ensures ∙ spare) some c.self.invariant.1 made.lengths.0 made.space.0,
      space_stored c.self.inside.spares.items c.from-holder.result c.left_of.result c.len.result _ _ _ _ within (c.left_of.ensures ∙ spare) some c.self.invariant.2 made.lengths.1 made.space.1,
      omega (arith, c.self.invariant.3, length-set c.self.inside.spares.items c.from-holder.result c.left_of.result),
      record { within = omega (arith, c.self.invariant.4.within, made.passed); items = c.self.invariant.4.items ∙ ap items_of (sym (made.kept _ c.self.invariant.4.within)) },
    )

pub returns-clause-front : goal.returns-clause-front
returns-clause-front g c = book_front _ _ _ _ c.put_store-self-inside.ensures.book
