use Rattle.std.proofs.Common.{◌∙◌}
use Rattle.mx_front.proofs.Openings.{one_pen_more}
use Rattle.mx_front.proofs.start.stream.Goals as goal

pub pens-preserved : goal.pens-preserved
pens-preserved g c = record {
  made = one_pen_more _ _ _ _ _ _ c.pens.invariant.made c.make_pen-pen.ensures.pen c.in_ok-push.ensures.ok;
  table = c.make_pen-pen.ensures.table ∙ c.pens.invariant.table;
  maker = c.make_pen-pen.ensures.maker;
}
