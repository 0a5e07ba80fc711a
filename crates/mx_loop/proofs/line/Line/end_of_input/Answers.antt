use Rattle.std.proofs.Common.{inl, inr, refl}
use Rattle.mx_serve.specs.declared.ended.End.TheVariants as end
use Rattle.mx_loop.specs.Stands.{sight}
use Rattle.mx_loop.proofs.Taking.{blank_from, ended_as, ends_head, not_both, open_from}
use Rattle.mx_loop.proofs.line.Line.end_of_input.Goals as goal

pub returns-then-is_blank-clause-reads : goal.returns-then-is_blank-clause-reads
returns-then-is_blank-clause-reads g c = λ site stops limit start lists h.
    let s = (sight g.P.Port.left g.P.Port.written c.args.self.now) in
    ended_as site stops limit start lists s end.Closed c.ended.result c.ended.ensures
    (ends_head site stops limit start lists s s end.Closed refl refl refl refl (inr (inr (inl (refl, blank_from c.args.self.now.intake c.requires.open (c.is_blank.ensures.0 c.if-is_blank.true), c.requires.ended)))) h)

pub returns-else-is_blank-clause-reads : goal.returns-else-is_blank-clause-reads
returns-else-is_blank-clause-reads g c = λ site stops limit start lists h.
    let s = (sight g.P.Port.left g.P.Port.written c.args.self.now) in
    let o = open_from c.args.self.now.intake c.requires.open (λ l. not_both c.is_blank.result c.if-is_blank.false (c.is_blank.ensures.1 l)) in
    ended_as site stops limit start lists s end.Cut c.ended-else-is_blank.result c.ended-else-is_blank.ensures
    (ends_head site stops limit start lists s s end.Cut refl refl refl refl (inr (inr (inr (refl, o.0, o.1, c.requires.ended)))) h)
