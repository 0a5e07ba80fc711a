-- Walks over the items after some, one by one, and the last item that passes where none of those does.
use Rattle.std.proofs.Common.{◌≡◌, ℕ, zero, suc, ◌+◌, ◌<◌, ◌≤◌, Bool, true, false, ◌||◌, List, [], ◌∷◌, length, take, drop, Option, Some, None, slice_get, refl, ap, sym, subst, ◌∙◌, arith}
use Rattle.std.proofs.lemmas.List.{drop_all, take-append-drop}
use Rattle.std.specs.Borrow.{Bor}
use Rattle.std.specs.List.{AllByRecursion, list_any}
use Rattle.std.specs.Option.{option_copied, option_or}
use Rattle.mx_snapshot.specs.Looks.{at_position, last_position}
use Rattle.mx_window.specs.Lasts.{last_at, last_of}
use Rattle.mx_window.specs.Windows.{stand_from}
use Rattle.mx_window.proofs.Intervals.{between-take, between-within}
use Rattle.mx_window.proofs.Lasts.{last_of-append, last_of-none, last_of-some}

module _ {E : Type 0} (test : E → Bool) where
  -- at the item after the first so many
  abbrev pub any_of : Option E → Bool
  any_of None = false
  any_of (Some e) = test e

  at_index : (p : ℕ) (es : List E) → (any_of (slice_get es p) || list_any test (drop (suc p) es)) ≡ list_any test (drop p es)
  at_index zero [] = refl
  at_index (suc p) [] = refl
  at_index zero (e ∷ es) = refl
  at_index (suc p) (e ∷ es) = at_index p es

  pub one_more : (p : ℕ) (es : List E) (o : Option E) → o ≡ at_position es (p + 1) → (any_of o || list_any test (drop (p + 1) es)) ≡ list_any test (drop p es)
  one_more p es o is =
      let next : p + 1 ≡ suc p = omega arith in
      ap (λ o. any_of o || list_any test (drop (p + 1) es)) (is ∙ ap (at_position es) next) ∙ ap (λ n. any_of (slice_get es p) || list_any test (drop n es)) next
      ∙ at_index p es

  -- where there is none
  pub none_more : (p : ℕ) (es : List E) (o : Option (Bor E)) → option_copied o ≡ at_position es (p + 1) → o ≡ None → list_any test (drop (p + 1) es) ≡ list_any test (drop p es)
  none_more p es o found is = one_more p es None (ap option_copied (sym is) ∙ found)

  pub past_end : (p : ℕ) (es : List E) → length es ≤ p → list_any test (drop p es) ≡ false
  past_end p es up = ap (list_any test) (drop_all p es up)

-- the last that passes stands among the first items where none passes later
pub last_early : {E : Type 0} (at : E → ℕ) (test : E → Bool) (n : ℕ) (xs : List E) → stand_from at 1 xs ≡ true → list_any test (drop n xs) ≡ false
    → last_position at test xs ≤ n
last_early at test n xs stands none =
    let within : AllByRecursion (λ e. (0 < at e) × (at e ≤ n)) (take n xs) =
    subst (AllByRecursion (λ e. (0 < at e) × (at e ≤ n))) (between-take at n xs stands) (between-within at 0 n xs) in
    let split : last_of test xs ≡ last_of test (take n xs) =
    ap (last_of test) (sym (take-append-drop n xs)) ∙ last_of-append test (take n xs) (drop n xs)
    ∙ ap (λ o. option_or o (last_of test (take n xs))) (last_of-none test (drop n xs) none) in
    subst (λ o. last_at at 0 o ≤ n) (sym split) (by (last_of test (take n xs)) refl within) where
      by : (o : Option _) → last_of test (take n xs) ≡ o → AllByRecursion (λ e. (0 < at e) × (at e ≤ n)) (take n xs) → last_at at 0 o ≤ n
      by None is h = omega arith
      by (Some e) is h = (last_of-some (λ e. (0 < at e) × (at e ≤ n)) test (take n xs) e h is).1.1

-- an item's own test in another place
pub passed_on : (s h d : Bool) → ((s || h) || d) ≡ (h || (s || d))
passed_on true true d = refl
passed_on true false d = refl
passed_on false h d = refl
