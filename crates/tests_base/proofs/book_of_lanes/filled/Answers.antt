use Rattle.std.proofs.Common.{◌≡◌, ◌+◌, ℕ, List, [], ◌∷◌, ◌++◌, length, IfOk, refl, sym, ap, ap₂, subst, ◌∙◌, arith, false}
use Rattle.mx_core.specs.History.{is_stored}
use Rattle.mx_core.specs.declared.history.Stored.{Stored}
use Rattle.tests_base.proofs.book_of_lanes.filled.Goals as goal

pub store-requires-3-clause-apart : goal.store-requires-3-clause-apart
store-requires-3-clause-apart g c = λ p low high.
    let third : c.expect-third.result ≡ 30 ∷ [] = subst (λ r. IfOk r (λ items. items ≡ 30 ∷ [])) c.expect-third.ensures c.one.ensures in
    let first : c.expect-first.result ≡ 10 ∷ [] = subst (λ r. IfOk r (λ items. items ≡ 10 ∷ [])) c.expect-first.ensures c.one-2.ensures in
    let second : c.expect-second.result ≡ 20 ∷ [] = subst (λ r. IfOk r (λ items. items ≡ 20 ∷ [])) c.expect-second.ensures c.one-3.ensures in
    let made : List (Stored ℕ) → List ℕ → List ℕ → List (Stored ℕ) = λ h xs ys. (h ++ record { writer = 2; first = 3; items = xs } ∷ []) ++ record { writer = 0; first = 1; items = ys } ∷ [] in
    let history : c.up_to.new.self.history ≡ made [] (30 ∷ []) (10 ∷ []) =
    c.up_to.ensures.kept.history ∙ c.store-2.ensures.history ∙ ap (λ h. h ++ record { writer = 0; first = 1; items = c.expect-first.result } ∷ []) c.store.ensures.history
    ∙ (λ i. made (c.requires.history i) (third i) (first i)) in
    let two : p ≡ 2 = omega (arith, low, high, ap length second) in
    ap₂ is_stored history two
