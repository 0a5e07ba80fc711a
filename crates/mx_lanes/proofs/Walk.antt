-- Fronts of the items that were taken, for walks from a position back to 1.
use Rattle.std.proofs.Common.{◌≡◌, ℕ, zero, suc, ◌+◌, ◌-◌, List, [], ◌∷◌, ◌++◌, drop, take, length, min, Some, slice_get, refl, sym, subst, ap, ◌∙◌, inl, inr, arith}
use Rattle.std.proofs.lemmas.Bool.{cases_lt}
use Rattle.std.proofs.lemmas.List.{take_all}
use Rattle.mx_lanes.specs.Parts.{Taken, part_at}

-- a front of a list, one item longer
take-next : {A : Type 0} (xs : List A) (i : ℕ) (x : A) → slice_get xs i ≡ Some x → take (suc i) xs ≡ take i xs ++ x ∷ []
take-next [] i x is = absurd cc
take-next (y ∷ xs) zero x is = let same : y ≡ x = cc in ap (λ z. z ∷ []) same
take-next (y ∷ xs) (suc i) x is = ap (λ l. y ∷ l) (take-next xs i x is)

-- the items up to a position are those before it, and the one that stands there
pub taken-back : {A : Type 0} (parts : Taken A) (p : ℕ) (x : A) → Some x ≡ part_at parts p → take p parts.items ≡ take (p - 1) parts.items ++ x ∷ []
taken-back parts zero x is = absurd cc
taken-back parts (suc p) x is = let back : suc p - 1 ≡ p = omega arith in rw back (take-next parts.items p x (sym is))

pub take-min : {A : Type 0} (n : ℕ) (xs : List A) → take (min n (length xs)) xs ≡ take n xs
take-min n xs = elim (cases_lt (length xs) n) [
  | inr short ↦ let least : min n (length xs) ≡ n = omega arith in rw least refl
  | inl long ↦ let least : min n (length xs) ≡ length xs = omega arith in rw least (take_all (length xs) xs (omega arith) ∙ sym (take_all n xs (omega arith)))
]

drop-next : {A : Type 0} (xs : List A) (i : ℕ) (x : A) → slice_get xs i ≡ Some x → drop i xs ≡ x ∷ drop (suc i) xs
drop-next [] i x is = absurd cc
drop-next (y ∷ xs) zero x is = let same : y ≡ x = cc in ap (λ z. z ∷ xs) same
drop-next (y ∷ xs) (suc i) x is = drop-next xs i x is

-- the items after a position are the one at the next, and those after it
pub dropped-next : {A : Type 0} (parts : Taken A) (p : ℕ) (x : A) → Some x ≡ part_at parts (p + 1) → drop p parts.items ≡ x ∷ drop (p + 1) parts.items
dropped-next parts p x is =
    let next : p + 1 ≡ suc p = omega arith in
    let here : Some x ≡ part_at parts (suc p) = subst (λ n. Some x ≡ part_at parts n) next is in
    drop-next parts.items p x (sym here) ∙ ap (λ n. x ∷ drop n parts.items) (sym next)
