-- The first events of a window are those of its lower stretch, where that has more, or is the window.
use Rattle.std.proofs.Common.{◌≡◌, ℕ, zero, suc, ◌<◌, ◌≤◌, min, Bool, true, false, nat_lt, ◌==◌, ◌||◌, List, [], ◌∷◌, ◌++◌, filter, take, length, refl, ap, sym, ◌∙◌, inl, inr, arith}
use Rattle.std.proofs.lemmas.Bool.{cases_lt, eqb-true, lt-ltb, le-ltb, ltb-true}
use Rattle.std.proofs.lemmas.List.{length-append, length-take}
use Rattle.std.specs.Borrow.{Bor}
use Rattle.mx_snapshot.specs.Looks.{all_now}
use Rattle.mx_window.specs.Windows.{Ascends}
use Rattle.mx_window.proofs.Intervals.{between-empty}
use Rattle.mx_event.specs.declared.event.Event.{Event}
use Rattle.mx_folding.specs.Rooms.{Room}
use Rattle.mx_folding.specs.Sections.{sendable}
use Rattle.mx_parts.proofs.Settled.{split}

take-front : {A : Type 0} (n : ℕ) (xs ys : List A) → n ≤ length xs → take n (xs ++ ys) ≡ take n xs
take-front zero xs ys h = refl
take-front (suc n) [] ys h = let never : ⊥ = omega (arith, h) in absurd never
take-front (suc n) (x ∷ xs) ys h = ap (λ l. x ∷ l) (take-front n xs ys (omega (arith, h)))

pub take_now : (n : ℕ) (xs : List (Bor Event)) → all_now (take n xs) ≡ take n (all_now xs)
take_now zero xs = refl
take_now (suc n) [] = refl
take_now (suc n) (x ∷ xs) = ap (λ l. x.now ∷ l) (take_now n xs)

-- fewer are taken exactly where there are more
pub take_less : {A : Type 0} (n : ℕ) (xs : List A) → nat_lt (length (take n xs)) (length xs) ≡ nat_lt n (length xs)
take_less n xs =
    let taken : length (take n xs) ≡ min n (length xs) = length-take n xs in
    elim (cases_lt n (length xs)) [
      | inl h ↦ lt-ltb (length (take n xs)) (length xs) (omega (arith, h, taken)) ∙ sym (lt-ltb n (length xs) h)
      | inr h ↦ le-ltb (length (take n xs)) (length xs) (omega (arith, h, taken)) ∙ sym (le-ltb n (length xs) h)
    ]

module _ {E K : Type 0} (r : Room E K) (es : List E) (front : ℕ) (up : Ascends r.at 0 es) (limit low until high : ℕ) (within : until ≤ high) where
  longer : limit < length (sendable r es front low until)
      → (take limit (sendable r es front low until) ≡ take limit (sendable r es front low high)) × (limit < length (sendable r es front low high))
  longer less = elim (cases_lt until low) [
    | inl outside ↦
        let none : length (sendable r es front low until) ≡ 0 = ap (λ l. length (filter (r.sends front) l)) (between-empty r.at low until es (omega (arith, outside))) in
        let never : ⊥ = omega (arith, less, none) in absurd never
    | inr inside ↦
        let parts = split r es front up low until high (omega (arith, inside)) within in
        let sum = ap length parts ∙ length-append (sendable r es front low until) (sendable r es front until high) in
        (sym (ap (take limit) parts ∙ take-front limit (sendable r es front low until) (sendable r es front until high) (omega (arith, less))), omega (arith, less, sum))
  ]

  pub first_settled : (made : List E) → made ≡ sendable r es front low until → (nat_lt limit (length made) || (until == high)) ≡ true
      → (take limit made ≡ take limit (sendable r es front low high))
      × (nat_lt limit (length made) ≡ nat_lt (length (take limit (sendable r es front low high))) (length (sendable r es front low high)))
  first_settled made is test = by (nat_lt limit (length made)) refl test where
    by : (b : Bool) → nat_lt limit (length made) ≡ b → (b || (until == high)) ≡ true
        → (take limit made ≡ take limit (sendable r es front low high))
        × (nat_lt limit (length made) ≡ nat_lt (length (take limit (sendable r es front low high))) (length (sendable r es front low high)))
    by true more h =
        let both = longer (let less : limit < length made = ltb-true limit (length made) more in omega (arith, less, ap length is)) in
        (ap (take limit) is ∙ both.0, more ∙ sym (take_less limit (sendable r es front low high) ∙ lt-ltb limit (length (sendable r es front low high)) both.1))
    by false more h =
        let whole = is ∙ ap (λ n. sendable r es front low n) (eqb-true until high h) in
        (ap (take limit) whole, ap (λ l. nat_lt limit (length l)) whole ∙ sym (take_less limit (sendable r es front low high)))
