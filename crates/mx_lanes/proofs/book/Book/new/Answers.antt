use Rattle.std.proofs.Common.{◌≡◌, ℕ, length, replicate, ap, arith, rules}
use Rattle.std.proofs.lemmas.List.{length-replicate}
use Rattle.mx_lanes.proofs.Books.{book_new, space_new}
use Rattle.mx_lanes.proofs.book.Book.new.Goals as goal

pub invariant_of-result : goal.invariant_of-result
invariant_of-result g c =
    let lanes : c.in_ok-vec.field-0.items ≡ replicate c.args.writers 0 = search rules in (
      book_new _ _ c.new.ensures.items c.new-2.ensures.items,
      space_new _ c.args.writers _ _ lanes c.new.ensures.len,
      space_new _ c.args.writers _ _ lanes c.new-2.ensures.len,
      omega (arith, ap length lanes, length-replicate {A = ℕ} c.args.writers 0, c.ranges.writers),
      record { within = omega arith; items = c.new-3.ensures },
    )
