use Rattle.std.proofs.Common.{◌≡◌, List, [], ◌∷◌, ◌++◌, refl, sym, ap, ◌∙◌, subst, append_assoc, append-nil}
use Rattle.std.proofs.lemmas.List.{nil_from_length}
use Rattle.std.specs.List.{AllByRecursion}
use Rattle.mx_fold.specs.Lists.{Grows}
use Rattle.mx_engine.specs.Shown.{Ties, stores_of}
use Rattle.mx_engine.specs.declared.held.EnginePass.{EnginePass}
use Rattle.mx_engine.proofs.Done.{all_self}
use Rattle.mx_engine.proofs.Known.{grows_twice}
use Rattle.mx_engine.proofs.Meets.{all_split, all_weaker}
use Rattle.mx_engine.proofs.held.Engine.meet_all.Goals as goal

pub others-init : goal.others-init
others-init g c = (c.requires.own, refl, c.requires.others, all_self (stores_of c.args.pass.now), ([], sym (append-nil c.args.others.items), tt))

pub meet-requires-clause-own : goal.meet-requires-clause-own
meet-requires-clause-own g c = c.others.invariant.0

pub meet-requires-clause-other : goal.meet-requires-clause-other
meet-requires-clause-other g c =
    let known : AllByRecursion (λ (p : EnginePass). Ties c.args.self.now p) (c.pop.new.self.items ++ c.in-Some.other ∷ []) =
    subst (AllByRecursion (λ (p : EnginePass). Ties c.args.self.now p)) c.in-Some.ensures.items c.others.invariant.2 in
    (all_split (λ (p : EnginePass). Ties c.args.self.now p) c.pop.new.self.items c.in-Some.other known).1

pub others-preserved : goal.others-preserved
others-preserved g c =
    let known : AllByRecursion (λ (p : EnginePass). Ties c.args.self.now p) (c.pop.new.self.items ++ c.in-Some.other ∷ []) =
    subst (AllByRecursion (λ (p : EnginePass). Ties c.args.self.now p)) c.in-Some.ensures.items c.others.invariant.2 in
    let left = (all_split (λ (p : EnginePass). Ties c.args.self.now p) c.pop.new.self.items c.in-Some.other known).0 in
    let grown = c.meet.ensures.own in
    let before = c.others.invariant.4 in
    let done : List EnginePass = before.0 in (
      c.meet.ensures.ties,
      c.meet.ensures.made ∙ c.others.invariant.1,
      left,
      grows_twice (stores_of c.args.pass.now) (stores_of c.others.pass) (stores_of c.meet.new.pass) c.others.invariant.3 grown,
      (
        c.in-Some.other ∷ done,
        before.1 ∙ ap (λ l. l ++ done) c.in-Some.ensures.items ∙ append_assoc c.pop.new.self.items (c.in-Some.other ∷ []) done,
        (
          c.meet.ensures.other,
          all_weaker (λ (p : EnginePass). Grows (stores_of p) (stores_of c.others.pass)) (λ (p : EnginePass). Grows (stores_of p) (stores_of c.meet.new.pass))
              (λ p h. grows_twice (stores_of p) (stores_of c.others.pass) (stores_of c.meet.new.pass) h grown) done before.2,
        ),
      ),
    )

pub returns-clause-ties : goal.returns-clause-ties
returns-clause-ties g c = c.others.invariant.0

pub returns-clause-made : goal.returns-clause-made
returns-clause-made g c = c.others.invariant.1

pub returns-clause-own : goal.returns-clause-own
returns-clause-own g c = c.others.invariant.3

pub returns-clause-others : goal.returns-clause-others
returns-clause-others g c =
    let met = c.others.invariant.4 in
    let none : c.others.rest.items ≡ [] = nil_from_length c.others.rest.items (sym c.others.rest.ok.0 ∙ c.in_default.ensures.cases.0) in
    subst (AllByRecursion (λ (p : EnginePass). Grows (stores_of p) (stores_of c.others.pass)))
    (sym (met.1 ∙ ap (λ (l : List EnginePass). l ++ met.0) none)) met.2
