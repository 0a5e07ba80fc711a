use Rattle.std.proofs.Common.{◌≡◌, []}
use Rattle.mx_front.specs.Shown.{place_of, writers_of}
use Rattle.mx_front.specs.Start.{AreNewPens}
use Rattle.mx_front.specs.World.{maker_of}
use Rattle.mx_front.proofs.start.stream.Given as goal

abbrev pub invariant-pens : goal.invariant-pens
invariant-pens g l = record {
  made : AreNewPens (place_of l.stream) (writers_of l.stream) l.writer l.pens;
  table : l.maker.table_id ≡ place_of l.stream;
  maker : l.maker.me ≡ (maker_of (writers_of l.stream) l.writer, []);
}
