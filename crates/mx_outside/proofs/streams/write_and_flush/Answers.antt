use Rattle.std.proofs.Common.{rules, subst, take}
use Rattle.std.proofs.lemmas.List.{take_rest}
use Rattle.std.specs.Io.KnownBytes.{Appends}
use Rattle.mx_outside.proofs.Known.{appends_more}
use Rattle.mx_outside.proofs.streams.write_and_flush.Goals as goal

pub writes-preserved : goal.writes-preserved
writes-preserved g c = record {
  within = search rules;
  added = appends_more (g.W.Write.contents c.args.writer.now) (g.W.Write.contents c.writes.writer) (g.W.Write.contents c.write.new.self)
      c.args.bytes.now c.writes.done c.in-Ok.count c.writes.invariant.added
      (subst (λ rest. Appends (g.W.Write.contents c.writes.writer) (g.W.Write.contents c.write.new.self) (take c.in-Ok.count rest))
      (take_rest c.args.bytes.now c.writes.done) c.in-Ok.ensures.bytes);
}
