-- What a lawful history covers stands in its places.
use Rattle.std.proofs.Common.{◌≡◌, ℕ, zero, suc, ◌+◌, ◌-◌, ◌≤◌, true, List, [], ◌∷◌, ◌++◌, Option, Some, None, leb, nat_eq, refl, ap, inl, inr, arith}
use Rattle.std.specs.List.{slice_get}
use Rattle.std.specs.Option.{option_or}
use Rattle.std.proofs.lemmas.Bool.{cases_Bool, and_parts, and_from, eqb-true, eq-eqb, leb-true}
use Rattle.std.proofs.lemmas.Option.{none-some, same_Some}
use Rattle.mx_window.specs.Windows.{stand_from}
use Rattle.mx_core.specs.declared.history.Stored.{Stored}
use Rattle.mx_core.specs.Covered.{reach, with_item, covered_from, covered}
use Rattle.mx_core.specs.History.{item_of, item_at, own, Law, keeps_law}
use Rattle.mx_core.specs.Places.{Carries, CoveredInPlace}

module _ {I : Type 0} (at : I → ℕ) where
  stand_get : (first i : ℕ) (es : List I) (x : I) → stand_from at first es ≡ true → slice_get es i ≡ Some x → at x ≡ first + i
  stand_get first zero [] x stands e = absurd (none-some x e)
  stand_get first (suc i) [] x stands e = absurd (none-some x e)
  stand_get first zero (y ∷ es) x stands e =
      let here : at y ≡ first = eqb-true (at y) first (and_parts (nat_eq (at y) first) (stand_from at (first + 1) es) stands).0 in
      let same : at y ≡ at x = ap at (same_Some y x e) in
      omega (arith, here, same)
  stand_get first (suc i) (y ∷ es) x stands e =
      let rest : at x ≡ (first + 1) + i = stand_get (first + 1) i es x (and_parts (nat_eq (at y) first) (stand_from at (first + 1) es) stands).1 e in
      omega (arith, rest)

  placed_in : (s : Stored I) (p : ℕ) (x : I) → stand_from at s.first s.items ≡ true → item_of s p ≡ Some x → at x ≡ p
  placed_in s p x stands e = elim (cases_Bool (leb s.first p)) [
    | inl is ↦
        let low : s.first ≤ p = leb-true s.first p is in
        let there : at x ≡ s.first + (p - s.first) = stand_get s.first (p - s.first) s.items x stands (rw is at e) in
        omega (arith, low, there)
    | inr not ↦ absurd (none-some x (rw not at e))
  ]

  first_of : (p : ℕ) (o rest : Option I) (x : I) → (o ≡ Some x → at x ≡ p) → (rest ≡ Some x → at x ≡ p) → option_or o rest ≡ Some x → at x ≡ p
  first_of p None rest x here there e = there e
  first_of p (Some y) rest x here there e = here e

  stands_next : (p : ℕ) (rest : List I) (o : Option I) → ((x : I) → o ≡ Some x → at x ≡ p) → stand_from at (p + 1) rest ≡ true → stand_from at p (with_item o rest) ≡ true
  stands_next p rest None each stands = refl
  stands_next p rest (Some x) each stands = and_from (nat_eq (at x) p) (stand_from at (p + 1) rest) (eq-eqb (at x) p (each x refl)) stands

  run_stands : (h : List (Stored I)) → ((q : ℕ) (x : I) → item_at h q ≡ Some x → at x ≡ q) → (p n : ℕ) → stand_from at p (covered_from h p n) ≡ true
  run_stands h each p zero = refl
  run_stands h each p (suc n) = stands_next p (covered_from h (p + 1) n) (item_at h p) (λ x is. each p x is) (run_stands h each (p + 1) n)

  item_in_place : (law : Law I) → Carries at law → (before h : List (Stored I)) → keeps_law law before h ≡ true → (p : ℕ) (x : I) → item_at h p ≡ Some x → at x ≡ p
  item_in_place law carries before [] kept p x e = absurd (none-some x e)
  item_in_place law carries before (s ∷ h) kept p x e =
      let parts = and_parts (law s.writer (own before s.writer) s.first s.items) (keeps_law law (before ++ s ∷ []) h) kept in
      first_of p (item_of s p) (item_at h p) x (placed_in s p x (carries s.writer (own before s.writer) s.first s.items parts.0)) (item_in_place law carries (before ++ s ∷ []) h parts.1 p x) e

pub covered_in_place : {I : Type 0} → CoveredInPlace I
unfolding covered
covered_in_place at law h carries kept = run_stands at h (item_in_place at law carries [] h kept) 1 (reach h)
