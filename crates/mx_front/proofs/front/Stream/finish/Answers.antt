use Rattle.std.proofs.Common.{ap, sym, ◌∙◌, length, arith}
use Rattle.mx_front.specs.Told.{block_at, can_store}
use Rattle.mx_front.proofs.Seats.{ready, finished, counted_left}
use Rattle.mx_front.proofs.Stores.{block_lent, has_stored, law_lent, pen_lent, right_lent}
use Rattle.mx_front.proofs.front.Stream.finish.Goals as goal

pub put_store-front-requires-clause-ready : goal.put_store-front-requires-clause-ready
put_store-front-requires-clause-ready g c =
    let p = c.args.pen.now.seat.me in
    let q = c.args.pass.now.seat.me in
    let is = c.lend.ensures.seat in
    ready _ _ _ _ _ c.seize-owed.ensures.seized (pen_lent p q _ _ is c.args.pen.now.writes) (right_lent p q _ is c.args.pass.now.stores_by)
    (block_lent p q _ _ is (c.requires.block ∙ ap (block_at c.args.drawn.first) c.requires.count)) (law_lent g.I.Placed.lawful p q _ _ is c.requires.lawful)

pub invariant_of-pen : goal.invariant_of-pen
invariant_of-pen g c =
    let p = c.args.pen.now.seat.me in
    let q = c.args.pass.now.seat.me in
    let is = c.lend.ensures.seat in
    let f = finished _ _ _ _ _ _ _ _ c.seize-owed.ensures.seized (pen_lent p q _ _ is c.args.pen.now.writes) (block_lent p q _ _ is (c.requires.block ∙ ap (block_at c.args.drawn.first) c.requires.count)) (law_lent g.I.Placed.lawful p q _ _ is c.requires.lawful)
    c.put_store-front.ensures.stored c.leave.ensures.left in
    let h = has_stored g.I.Placed.lawful p _ _ _ q _ _ _ _ is c.lend.ensures.other f c.lend-2.ensures.seat c.lend-2.ensures.other in
    record {
      rests = h.rests;
      writes = h.writes;
      lends = h.lends;
      complete = h.complete;
      lawful = h.finishes.lawful;
      orderly = h.finishes.orderly;
      counted = counted_left _ _ _ _ _ _ c.put_store-front.ensures.stored c.leave.ensures.left c.put_store-front.ensures.count ∙ sym (ap (λ m. length m.0.seen) c.lend-2.ensures.other);
      spaced = omega (arith, c.saturating_sub-pen.ensures, c.from.ensures, h.finishes.reserve, c.args.pen.now.spaced, c.requires.count);
    }

pub invariant_of-pass : goal.invariant_of-pass
invariant_of-pass g c =
    let p = c.args.pen.now.seat.me in
    let q = c.args.pass.now.seat.me in
    let is = c.lend.ensures.seat in
    let f = finished _ _ _ _ _ _ _ _ c.seize-owed.ensures.seized (pen_lent p q _ _ is c.args.pen.now.writes) (block_lent p q _ _ is (c.requires.block ∙ ap (block_at c.args.drawn.first) c.requires.count)) (law_lent g.I.Placed.lawful p q _ _ is c.requires.lawful)
    c.put_store-front.ensures.stored c.leave.ensures.left in
    let h = has_stored g.I.Placed.lawful p _ _ _ q _ _ _ _ is c.lend.ensures.other f c.lend-2.ensures.seat c.lend-2.ensures.other in
    record {
      rests = (h.turn ∙ c.args.pass.now.rests.0, h.bare ∙ c.args.pass.now.rests.1);
      lawful = ap (Rattle.mx_core.specs.History.keeps_law g.I.Placed.lawful Rattle.std.specs.Prelude.[]) h.sees.seen ∙ h.finishes.lawful;
      orderly = Rattle.std.proofs.Common.subst Rattle.mx_core.specs.Orderly.IsOrderly (sym h.sees.seen) h.finishes.orderly;
      counted = counted_left _ _ _ _ _ _ c.put_store-front.ensures.stored c.leave.ensures.left c.put_store-front.ensures.count ∙ sym (ap (λ m. length m.0.seen) c.lend-2.ensures.other) ∙ sym (ap length h.sees.seen);
      of_writers = h.sees.writers;
      stores_by = ap can_store h.sees.right ∙ c.args.pass.now.stores_by;
    }

pub returns-clause-stored : goal.returns-clause-stored
returns-clause-stored g c =
    let p = c.args.pen.now.seat.me in
    let q = c.args.pass.now.seat.me in
    let is = c.lend.ensures.seat in
    let f = finished _ _ _ _ _ _ _ _ c.seize-owed.ensures.seized (pen_lent p q _ _ is c.args.pen.now.writes) (block_lent p q _ _ is (c.requires.block ∙ ap (block_at c.args.drawn.first) c.requires.count)) (law_lent g.I.Placed.lawful p q _ _ is c.requires.lawful)
    c.put_store-front.ensures.stored c.leave.ensures.left in
    (has_stored g.I.Placed.lawful p _ _ _ q _ _ _ _ is c.lend.ensures.other f c.lend-2.ensures.seat c.lend-2.ensures.other).finishes

pub returns-clause-seen : goal.returns-clause-seen
returns-clause-seen g c =
    let p = c.args.pen.now.seat.me in
    let q = c.args.pass.now.seat.me in
    let is = c.lend.ensures.seat in
    let f = finished _ _ _ _ _ _ _ _ c.seize-owed.ensures.seized (pen_lent p q _ _ is c.args.pen.now.writes) (block_lent p q _ _ is (c.requires.block ∙ ap (block_at c.args.drawn.first) c.requires.count)) (law_lent g.I.Placed.lawful p q _ _ is c.requires.lawful)
    c.put_store-front.ensures.stored c.leave.ensures.left in
    (has_stored g.I.Placed.lawful p _ _ _ q _ _ _ _ is c.lend.ensures.other f c.lend-2.ensures.seat c.lend-2.ensures.other).sees
