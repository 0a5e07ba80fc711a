use Rattle.std.proofs.Common.{◌≤◌, length, take, sym, ap, ◌∙◌, subst, arith}
use Rattle.std.proofs.lemmas.Result.{IfOk-weaker}
use Rattle.mx_lanes.specs.Held.{Held}
use Rattle.mx_lanes.specs.Parts.{IsUpTo}
use Rattle.mx_lanes.proofs.Books.{book_within, shelf_reaches, taken_at}
use Rattle.mx_lanes.proofs.book.Book.up_to.Goals as goal

pub shelve-requires-clause-passed : goal.shelve-requires-clause-passed
shelve-requires-clause-passed g c = omega (arith, book_within _ _ _ _ c.self.invariant.0, ap length c.as_slice.ensures.value)

pub parts-requires : goal.parts-requires
parts-requires g c =
    let low : c.args.front ≤ c.self.inside.reach.front = omega (arith, c.requires, ap (λ (b : Held g.row.I.Denot). b.front) c.self.view_is) in
    shelf_reaches _ _ _ _ _ _ _ c.self.invariant.0 low c.as_slice.ensures.value c.in_ok-shelve.ensures.ok

pub returns-clause-found : goal.returns-clause-found
returns-clause-found g c =
    let low : c.args.front ≤ c.self.inside.reach.front = omega (arith, c.requires, ap (λ (b : Held g.row.I.Denot). b.front) c.self.view_is) in
    IfOk-weaker c.parts.result _ _ (λ p h.
    subst (λ (b : Held g.row.I.Denot). IsUpTo b.history c.args.front p) c.self.view_is
    (subst (IsUpTo c.self.inside.history.items c.args.front) (sym h)
    (taken_at _ _ _ _ _ _ _ _ c.self.invariant.0 low c.as_slice.ensures.value (ap (take c.args.front) c.in_ok-shelve.ensures.ok) (c.len.ensures ∙ c.shelve.ensures.same.1 ∙ c.self.inside.history.ok.0)))) c.parts.ensures
