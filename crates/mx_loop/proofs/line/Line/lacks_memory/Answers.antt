use Rattle.std.proofs.Common.{inl, refl}
use Rattle.mx_serve.specs.declared.ended.End.TheVariants as end
use Rattle.mx_loop.specs.Stands.{sight}
use Rattle.mx_loop.proofs.Taking.{ended_as, ends_head}
use Rattle.mx_loop.proofs.line.Line.lacks_memory.Goals as goal

pub returns-clause-reads : goal.returns-clause-reads
returns-clause-reads g c = λ site stops limit start lists h.
    let s = (sight g.P.Port.left g.P.Port.written c.args.self.now) in
    ended_as site stops limit start lists s (end.Memory c.args.refused) c.ended.result c.ended.ensures (ends_head site stops limit start lists s s (end.Memory c.args.refused) refl refl refl refl (inl (c.args.refused, refl)) h)
