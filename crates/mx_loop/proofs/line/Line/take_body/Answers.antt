use Rattle.std.proofs.Common.{inl, inr, refl, subst}
use Rattle.std.specs.Io.KnownBytes.{IsAtEnd}
use Rattle.mx_serve.specs.declared.ended.End.TheVariants as end
use Rattle.mx_loop.specs.Stands.{sight}
use Rattle.mx_loop.proofs.Taking.{ended_as, ends_body}
use Rattle.mx_loop.proofs.line.Line.take_body.Goals as goal

pub returns-in-Ok-End-clause-reads : goal.returns-in-Ok-End-clause-reads
returns-in-Ok-End-clause-reads g c = λ site stops limit start lists h.
    let s = (sight g.P.Port.left g.P.Port.written c.args.self.now) in
    let t = (sight g.P.Port.left g.P.Port.written (record { port = c.take_now.new.port; intake = c.take_now.new.self; out = c.args.self.now.out; marks = c.args.self.now.marks; seen = c.args.self.now.seen })) in
    let f = rw c.in-Ok-End.field-0-is at c.in-Ok-End.ensures.fills in
    ended_as site stops limit start lists t end.Cut c.ended.result c.ended.ensures
    (ends_body site stops limit start lists s t c.args.head end.Cut refl c.take_now.ensures.written f.0 f.1 (inr (inr (refl, c.requires.short, subst IsAtEnd f.1 f.2))) h)

pub returns-in-Ok-Failed-clause-reads : goal.returns-in-Ok-Failed-clause-reads
returns-in-Ok-Failed-clause-reads g c = λ site stops limit start lists h.
    let s = (sight g.P.Port.left g.P.Port.written c.args.self.now) in
    let t = (sight g.P.Port.left g.P.Port.written (record { port = c.take_now.new.port; intake = c.take_now.new.self; out = c.args.self.now.out; marks = c.args.self.now.marks; seen = c.args.self.now.seen })) in
    let f = rw c.in-Ok-Failed.field-0-is at c.in-Ok-Failed.ensures.fills in
    ended_as site stops limit start lists t end.ReadFault c.ended-in-Ok-Failed.result c.ended-in-Ok-Failed.ensures
    (ends_body site stops limit start lists s t c.args.head end.ReadFault refl c.take_now.ensures.written f.0 f.1 (inr (inl (refl, c.requires.short))) h)

pub returns-in-Err-clause-reads : goal.returns-in-Err-clause-reads
returns-in-Err-clause-reads g c = λ site stops limit start lists h.
    let s = (sight g.P.Port.left g.P.Port.written c.args.self.now) in
    let t = (sight g.P.Port.left g.P.Port.written (record { port = c.take_now.new.port; intake = c.take_now.new.self; out = c.args.self.now.out; marks = c.args.self.now.marks; seen = c.args.self.now.seen })) in
    ended_as site stops limit start lists t (end.Memory c.in-Err.refused) c.ended-in-Err.result c.ended-in-Err.ensures
    (ends_body site stops limit start lists s t c.args.head (end.Memory c.in-Err.refused) refl c.take_now.ensures.written c.in-Err.ensures.fills.0 c.in-Err.ensures.fills.1 (inl (c.in-Err.refused, refl)) h)
