use Rattle.std.proofs.Common.{◌∙◌, ap, inl, refl, true, false}
use Rattle.mx_http.specs.Answers.{response_bytes}
use Rattle.mx_serve.specs.Answers.{Response}
use Rattle.mx_serve.specs.declared.ended.End.TheVariants as end
use Rattle.mx_loop.specs.Stands.{sight}
use Rattle.mx_loop.proofs.Taking.{ended_as, ends_head}
use Rattle.mx_loop.proofs.Standing.{refuses}
use Rattle.mx_loop.proofs.line.Line.refuse.Goals as goal

pub returns-in-Ok-clause-reads : goal.returns-in-Ok-clause-reads
returns-in-Ok-clause-reads g c = λ site stops limit start lists h.
    refuses site stops limit start lists (sight g.P.Port.left g.P.Port.written c.args.self.now)
    (sight g.P.Port.left g.P.Port.written (record { port = c.args.self.now.port; intake = c.args.self.now.intake; out = c.set.new.self; marks = c.args.self.now.marks; seen = c.args.self.now.seen }))
    c.args.fault refl refl refl refl
    (c.set.ensures ∙ c.in-Ok.ensures ∙ ap (λ (a : Response). response_bytes a.status a.text false true) c.fault_answer.ensures) h.0 c.requires.faulty h.1

pub returns-clause-reads : goal.returns-clause-reads
returns-clause-reads g c = λ site stops limit start lists h.
    let s = (sight g.P.Port.left g.P.Port.written c.args.self.now) in
    ended_as site stops limit start lists s (end.Memory c.in-Err.refused) c.ended.result c.ended.ensures (ends_head site stops limit start lists s s (end.Memory c.in-Err.refused) refl refl refl refl (inl (c.in-Err.refused, refl)) h)
