use Rattle.std.proofs.Common.{ap, sym, subst, ◌∙◌, length, rules, arith}
use Rattle.mx_core.specs.History.{own}
use Rattle.mx_core.specs.Orderly.{IsOrderly}
use Rattle.mx_front.proofs.Seats.{lane_in, reserved, spaced}
use Rattle.mx_front.proofs.front.Stream.reserve_more.Goals as goal

pub more_space-made-requires-clause-book : goal.more_space-made-requires-clause-book
more_space-made-requires-clause-book g c = lane_in _ _ _ _ c.enter-owed.ensures.entered c.args.pen.now.writes

pub invariant_of-pen : goal.invariant_of-pen
invariant_of-pen g c =
    let r = reserved g.I.Placed.lawful _ _ _ _ _ _ c.enter-owed.ensures.entered c.args.pen.now.writes c.more_space-made.ensures.grown c.leave.ensures.left in record {
      rests = r.rests;
      writes = r.writes;
      lends = r.right ∙ c.args.pen.now.lends;
      complete = ap (λ l. own l c.args.pen.now.writer) r.keeps_space.seen ∙ c.args.pen.now.complete ∙ sym r.keeps_space.own_is;
      lawful = search (rules, r.keeps_space.seen);
      orderly = subst IsOrderly (sym r.keeps_space.seen) c.args.pen.now.orderly;
      counted = c.args.pen.now.counted ∙ sym (ap length r.keeps_space.seen);
      spaced = omega (arith, r.keeps_space.reserve, c.args.pen.now.spaced);
    }

pub returns-clause-space : goal.returns-clause-space
returns-clause-space g c =
    spaced _ _ _ _ _ _ _ c.enter-owed.ensures.entered c.args.pen.now.writes c.more_space-made.ensures.grown c.leave.ensures.left _ c.more_space-made.ensures.space

pub returns-clause-kept : goal.returns-clause-kept
returns-clause-kept g c =
    (reserved g.I.Placed.lawful _ _ _ _ _ _ c.enter-owed.ensures.entered c.args.pen.now.writes c.more_space-made.ensures.grown c.leave.ensures.left).keeps_space
