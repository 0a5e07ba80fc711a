use Rattle.std.proofs.Common.{inl, refl}
use Rattle.mx_serve.specs.declared.ended.End.TheVariants as end
use Rattle.mx_loop.specs.Stands.{sight}
use Rattle.mx_loop.proofs.Taking.{called, ended_as, ends_body}
use Rattle.mx_loop.proofs.line.Line.read_body.Goals as goal

pub returns-in-Ok-Some-clause-reads : goal.returns-in-Ok-Some-clause-reads
returns-in-Ok-Some-clause-reads g c = λ site stops limit start lists h.
    called site stops limit start lists (sight g.P.Port.left g.P.Port.written c.args.self.now)
    (sight g.P.Port.left g.P.Port.written (record { port = c.args.self.now.port; intake = c.take_body.new.self; out = c.args.self.now.out; marks = c.args.self.now.marks; seen = c.args.self.now.seen }))
    c.args.head c.in-Ok-Some.body c.with_body.result refl refl refl refl (rw c.in-Ok-Some.field-0-is at c.in-Ok-Some.ensures) c.with_body.ensures h

pub returns-in-Err-clause-reads : goal.returns-in-Err-clause-reads
returns-in-Err-clause-reads g c = λ site stops limit start lists h.
    let s = (sight g.P.Port.left g.P.Port.written c.args.self.now) in
    let t = (sight g.P.Port.left g.P.Port.written (record { port = c.args.self.now.port; intake = c.take_body.new.self; out = c.args.self.now.out; marks = c.args.self.now.marks; seen = c.args.self.now.seen })) in
    ended_as site stops limit start lists t (end.Memory c.in-Err.refused) c.ended.result c.ended.ensures
    (ends_body site stops limit start lists s t c.args.head (end.Memory c.in-Err.refused) refl refl c.in-Err.ensures refl (inl (c.in-Err.refused, refl)) h)
