use Rattle.std.proofs.Common.{◌≡◌, ◌<◌, ◌+◌, length, get_or, ap, ◌∙◌, arith}
use Rattle.std.proofs.lemmas.List.{get_or_read, length-set}
use Rattle.mx_lanes.specs.Held.{Held}
use Rattle.mx_lanes.specs.Space.{total}
use Rattle.mx_lanes.proofs.Books.{book_same, shelved_same, space_reserved}
use Rattle.mx_lanes.proofs.book.Book.reserve.Goals as goal

pub invariant_of-self-2 : goal.invariant_of-self-2
invariant_of-self-2 g c =
    let within : c.from-lane.result < length c.self.inside.spares.items = omega (arith, ap (λ (b : Held g.row.I.Denot). length b.spare) c.self.view_is, c.from-lane.ensures, c.requires) in
    let spare : c.index-spare.result.now ≡ get_or c.self.inside.spares.items c.from-lane.result 0 = get_or_read c.self.inside.spares.items c.from-lane.result c.index-spare.result.now within c.index-spare.ensures 0 in
    let sum : c.total_spare.result ≡ total c.self.inside.spares.items = c.total_spare.ensures.total ∙ ap total c.as_slice.ensures.value in (
      book_same _ _ _ _ _ _ c.self.invariant.0 c.reserve.ensures.items c.reserve-2.ensures.items,
      space_reserved c.self.inside.spares.items c.from-lane.result c.saturating_sub-more.result _ _ _ within (omega (arith, spare)) (omega (arith, sum, c.from.ensures, c.in_ok-reserve.ensures.ok)),
      space_reserved c.self.inside.spares.items c.from-lane.result c.saturating_sub-more.result _ _ _ within (omega (arith, spare)) (omega (arith, sum, c.from.ensures, c.in_ok-reserve-2.ensures.ok)),
      omega (arith, c.self.invariant.3, length-set c.self.inside.spares.items c.from-lane.result (c.index-spare.result.now + c.saturating_sub-more.result)),
      shelved_same _ _ _ _ _ _ _ c.self.invariant.4 c.reserve.ensures.items c.reserve-2.ensures.items,
    )
