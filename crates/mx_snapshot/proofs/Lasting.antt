-- The last of some positions that pass a test.
use Rattle.std.proofs.Common.{◌≡◌, ℕ, zero, suc, ◌≤◌, ◌<◌, Bool, true, false, cond, List, [], ◌∷◌, length, Option, Some, None, take, filter, slice_index_or, refl, sym, ap, ◌∙◌, arith}
use Rattle.std.specs.Option.{option_or}
use Rattle.mx_window.specs.Lasts.{last_at, last_of}
use Rattle.mx_snapshot.specs.Lists.{always, itself}
use Rattle.mx_snapshot.specs.Looks.{last_position}

abbrev final : List ℕ → Option ℕ
final [] = None
final (x ∷ xs) = option_or (final xs) (Some x)

final_is : (test : ℕ → Bool) (xs : List ℕ) → last_of test xs ≡ final (filter test xs)
final_is test [] = refl
final_is test (x ∷ xs) = by_test (test x) (final_is test xs) where
  or_none : (o : Option ℕ) → option_or o None ≡ o
  or_none None = refl
  or_none (Some y) = refl

  by_test : (b : Bool) → last_of test xs ≡ final (filter test xs) → option_or (last_of test xs) (cond b (Some x) None) ≡ final (cond b (x ∷ filter test xs) (filter test xs))
  by_test true h = ap (λ o. option_or o (Some x)) h
  by_test false h = or_none (last_of test xs) ∙ h

final_taken : (ps : List ℕ) (n d : ℕ) → n < length ps → final (take (suc n) ps) ≡ Some (slice_index_or ps n d)
final_taken [] n d within = absurd (omega (arith, within))
final_taken (p ∷ ps) zero d within = refl
final_taken (p ∷ ps) (suc n) d within = ap (λ o. option_or o (Some p)) (final_taken ps n d (omega (arith, within)))

pub last_none : (test : ℕ → Bool) (ps : List ℕ) (n : ℕ) → n ≡ 0 → take n ps ≡ filter test ps → None ≡ last_of test ps
last_none test ps n zeroed cut = ap (λ k. final (take k ps)) (sym zeroed) ∙ ap final cut ∙ sym (final_is test ps)

pub last_some : (test : ℕ → Bool) (ps : List ℕ) (n k d : ℕ) → n ≡ suc k → n ≤ length ps → take n ps ≡ filter test ps → Some (slice_index_or ps k d) ≡ last_of test ps
last_some test ps n k d is within cut = sym (final_taken ps k d (omega (arith, is, within))) ∙ ap (λ m. final (take m ps)) (sym is) ∙ ap final cut ∙ sym (final_is test ps)

at_end : (ps : List ℕ) (n d : ℕ) → suc n ≡ length ps → last_of always ps ≡ Some (slice_index_or ps n d)
at_end [] n d is = absurd (omega (arith, is))
at_end (p ∷ []) zero d is = refl
at_end (p ∷ []) (suc n) d is = absurd (omega (arith, is))
at_end (p ∷ q ∷ ps) zero d is = absurd (omega (arith, is))
at_end (p ∷ q ∷ ps) (suc n) d is = ap (λ o. option_or o (Some p)) (at_end (q ∷ ps) n d (omega (arith, is)))

pub one_last : (ps : List ℕ) (n d : ℕ) → suc n ≡ length ps → slice_index_or ps n d ≡ last_position itself always ps
one_last ps n d is = ap (last_at itself 0) (sym (at_end ps n d is))

pub no_last : (ps : List ℕ) → length ps ≡ 0 → 0 ≡ last_position itself always ps
no_last [] is = refl
no_last (p ∷ ps) is = absurd (omega (arith, is))

pub final_some : (ps : List ℕ) (n d : ℕ) → suc n ≡ length ps → Some (slice_index_or ps n d) ≡ last_of always ps
final_some ps n d is = sym (at_end ps n d is)

pub final_none : (ps : List ℕ) → length ps ≡ 0 → None ≡ last_of always ps
final_none [] is = refl
final_none (p ∷ ps) is = absurd (omega (arith, is))
