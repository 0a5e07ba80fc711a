-- What a run had seen covers what some first stores of a later history cover, if these stand in place.
use Rattle.std.proofs.Common.{◌≡◌, ℕ, zero, suc, ◌+◌, ◌<◌, ◌≤◌, true, false, List, [], ◌∷◌, ◌++◌, take, length, refl, sym, ap, ◌∙◌, subst, inl, inr, arith, append_assoc, length-append}
use Rattle.std.proofs.Math.Seq.{take-append_seam}
use Rattle.std.proofs.lemmas.Bool.{cases_Bool, cases_lt, or_cases, or_right, both_ways}
use Rattle.mx_core.specs.declared.history.Stored.{Stored}
use Rattle.mx_core.specs.Covered.{covered, front_of}
use Rattle.mx_core.specs.History.{is_stored, stored_count}
use Rattle.mx_core.specs.Orderly.{AreApart}
use Rattle.mx_core.proofs.Covering.{covers_more, covers_to_front}
use Rattle.mx_core.proofs.Histories.{is_stored-append, item_of_range, same_front, stored_cases, stored_count-append, stored_new, stored_still}
use Rattle.mx_replay.proofs.Stays.{Stands, found, stands_still, tokens_stay}
use Rattle.mx_replay.specs.Tokens.{HasOwn}
use Rattle.mx_restarts.specs.InPlace.{AreInPlace}

-- ---- stores in place are stored from the first position to the last, each once

first_stored : {I : Type 0} (s : Stored I) (h : List (Stored I)) (p : ℕ) → s.first ≤ p → p < s.first + length s.items → is_stored (s ∷ h) p ≡ true
first_stored s h p low high = stored_still (s ∷ []) h p (stored_new [] s p low high)

later_stored : {I : Type 0} (s : Stored I) (h : List (Stored I)) (p : ℕ) → is_stored h p ≡ true → is_stored (s ∷ h) p ≡ true
later_stored s h p stored = is_stored-append (s ∷ []) h p ∙ or_right (is_stored (s ∷ []) p) (is_stored h p) stored

all_stored : {I : Type 0} (first : ℕ) (h : List (Stored I)) → AreInPlace first h → (p : ℕ) → first ≤ p → p < first + stored_count h → is_stored h p ≡ true
all_stored first [] are p low high = absurd (omega arith)
all_stored first (s ∷ h) are p low high = elim (cases_lt p (first + length s.items)) [
  | inl here ↦ let at : s.first ≡ first = are.0 in first_stored s h p (omega arith) (omega arith)
  | inr later ↦ later_stored s h p (all_stored (first + length s.items) h are.1 p later (omega arith))
]

none_else : {I : Type 0} (first : ℕ) (h : List (Stored I)) → AreInPlace first h → (p : ℕ) → is_stored h p ≡ true → (first ≤ p) × (p < first + stored_count h)
none_else first [] are p stored = absurd (both_ways false refl stored)
none_else first (s ∷ h) are p stored = elim (or_cases (is_stored (s ∷ []) p) (is_stored h p) (sym (is_stored-append (s ∷ []) h p) ∙ stored)) [
  | inl here ↦ elim (stored_cases [] s p here) [
    | inl none ↦ absurd (both_ways false refl none)
    | inr range ↦
        let at : s.first ≡ first = are.0 in
        let low : s.first ≤ p = range.0 in
        let high : p < s.first + length s.items = range.1 in
        (omega arith, omega arith)
  ]
  | inr later ↦
      let range = none_else (first + length s.items) h are.1 p later in
      let low : first + length s.items ≤ p = range.0 in
      let high : p < first + length s.items + stored_count h = range.1 in
      (omega arith, omega arith)
]

are_apart : {I : Type 0} (first : ℕ) (h : List (Stored I)) → AreInPlace first h → AreApart h
are_apart first [] are = tt
are_apart first (s ∷ h) are = (
  λ p is. elim (cases_Bool (is_stored h p)) [
    | inl later ↦
        let at : s.first ≡ first = are.0 in
        let low : first + length s.items ≤ p = (none_else (first + length s.items) h are.1 p later).0 in
        let high : p < s.first + length s.items = (item_of_range s p is).1 in
        absurd (omega arith)
    | inr none ↦ none
  ],
  are_apart (first + length s.items) h are.1,
)

front_is : {I : Type 0} (h : List (Stored I)) → AreInPlace 1 h → front_of h ≡ stored_count h
front_is h are = same_front h (front_of h) (stored_count h) (covers_to_front h) (record {
  stored = λ p low high. all_stored 1 h are p (omega arith) (omega arith);
  greatest = greatest;
}) where
  greatest : (g : ℕ) → ((p : ℕ) → 0 < p → p ≤ g → is_stored h p ≡ true) → g ≤ stored_count h
  greatest zero stored = omega arith
  greatest (suc g) stored = let high : suc g < 1 + stored_count h = (none_else 1 h are (suc g) (stored (suc g) (omega arith) (omega arith))).1 in omega arith

-- a store in place, and those up to it
place_of : {I : Type 0} (first : ℕ) (before after : List (Stored I)) (s : Stored I) → AreInPlace first (before ++ s ∷ after)
    → (s.first ≡ first + stored_count before) × AreInPlace first (before ++ s ∷ [])
place_of first [] after s are = let at : s.first ≡ first = are.0 in (omega arith, (are.0, tt))
place_of first (b ∷ before) after s are =
    let rest = place_of (first + length b.items) before after s are.1 in
    let at : s.first ≡ first + length b.items + stored_count before = rest.0 in
    (omega arith, (are.0, rest.1))

-- ---- as many of the first stores of a history as cover what was covered

pub record IsCounted {I : Type 0} (seen h : List (Stored I)) : Type 0 where
  pub count : ℕ
  pub within : count ≤ length h
  pub covers : covered (take count h) ≡ covered seen

module _ {I : Type 0} (seen h : List (Stored I)) (are : AreInPlace 1 h) (has : HasOwn seen h) where
  -- first stores with the same front
  same_front_covers : (count : ℕ) → front_of (take count h) ≡ front_of seen → covered (take count h) ≡ covered seen
  same_front_covers count same = covers_more count h ∙ (ap (λ n. take n (covered h)) same ∙ sym (tokens_stay seen h (are_apart 1 h are) has))

  -- where a store begins at or before the front, all up to its end is stored, so the front has come to its end
  up_to_end : (s : Stored I) → Stands s seen → s.first ≤ front_of seen → (p : ℕ) → 0 < p → p < s.first + length s.items → is_stored seen p ≡ true
  up_to_end s at low p pos high = elim (cases_lt (front_of seen) p) [
    | inl above ↦
        let here : is_stored (s ∷ at.after) p ≡ true = first_stored s at.after p (omega arith) high in
        ap (λ l. is_stored l p) at.is
        ∙ (is_stored-append at.before (s ∷ at.after) p ∙ or_right (is_stored at.before p) (is_stored (s ∷ at.after) p) here)
    | inr covered ↦ (covers_to_front seen).stored p pos covered
  ]

  ends_within : (s : Stored I) → Stands s seen → s.first ≤ front_of seen → (end : ℕ) → s.first + length s.items ≡ suc end → end ≤ front_of seen
  ends_within s at low end is = (covers_to_front seen).greatest end (λ p pos le. up_to_end s at low p pos (omega arith))

  -- those up to the store that the front lies in
  counted_at : (s : Stored I) → Stands s seen → s.first ≤ front_of seen → front_of seen < s.first + length s.items → IsCounted seen h
  counted_at s at low high =
      let there = stands_still seen h s has at in
      let upto : List (Stored I) = there.before ++ s ∷ [] in
      let split : h ≡ upto ++ there.after = there.is ∙ sym (append_assoc there.before (s ∷ []) there.after) in
      let first : take (length upto) h ≡ upto = ap (take (length upto)) split ∙ take-append_seam upto there.after in
      let place = place_of 1 there.before there.after s (subst (AreInPlace 1) there.is are) in
      let begins : s.first ≡ 1 + stored_count there.before = place.0 in
      let ends : stored_count there.before + length s.items ≤ front_of seen = ends_within s at low (stored_count there.before + length s.items) (omega arith) in
      let few : stored_count upto ≡ stored_count there.before + (length s.items + 0) = stored_count-append there.before (s ∷ []) in
      let front : front_of upto ≡ stored_count upto = front_is upto place.1 in
      let long : length h ≡ length upto + length there.after = ap length split ∙ length-append upto there.after in
      record {
        count = length upto;
        within = omega arith;
        covers = same_front_covers (length upto) (ap front_of first ∙ omega arith);
      }

  counted_to : (front : ℕ) → front_of seen ≡ front → IsCounted seen h
  counted_to zero none = record {
    count = 0;
    within = omega arith;
    covers = same_front_covers 0 (front_is {I = I} [] tt ∙ sym none);
  }
  counted_to (suc f) is =
      let stored : is_stored seen (suc f) ≡ true = (covers_to_front seen).stored (suc f) (omega arith) (omega arith) in
      let at = found seen (suc f) stored in
      let range = item_of_range at.store (suc f) at.some in
      let low : at.store.first ≤ suc f = range.0 in
      let high : suc f < at.store.first + length at.store.items = range.1 in
      counted_at at.store at.stands (omega arith) (omega arith)

  pub counted : IsCounted seen h
  counted = counted_to (front_of seen) refl
