-- What one store more, or a longer history, has at a position.
use Rattle.std.proofs.Common.{◌≡◌, ℕ, ◌+◌, ◌-◌, ◌<◌, ◌≤◌, ◌⊎◌, zero, suc, true, false, ◌||◌, List, [], ◌∷◌, ◌++◌, Option, Some, None, length, leb, refl, sym, ap, ◌∙◌, inl, inr, arith}
use Rattle.std.specs.Option.{option_or, is_some}
use Rattle.std.specs.List.{slice_get}
use Rattle.std.proofs.lemmas.Bool.{cases_Bool, or_cases, or_left, or_right, le-leb, leb-true, false≢true}
use Rattle.std.proofs.lemmas.List.{append_assoc, append-nil}
use Rattle.mx_core.specs.declared.history.Stored.{Stored}
use Rattle.mx_core.specs.History.{item_of, item_at, is_stored, stored_count, Begins}
use Rattle.mx_core.specs.Front.{IsFront}

is_some-option_or : {A : Type 0} (a b : Option A) → is_some (option_or a b) ≡ (is_some a || is_some b)
is_some-option_or None b = refl
is_some-option_or (Some x) b = refl

option_or_assoc : {A : Type 0} (a b c : Option A) → option_or a (option_or b c) ≡ option_or (option_or a b) c
option_or_assoc None b c = refl
option_or_assoc (Some x) b c = refl

option_or-none : {A : Type 0} (a : Option A) → option_or a None ≡ a
option_or-none None = refl
option_or-none (Some x) = refl

option_or-some : {A : Type 0} (a b : Option A) → is_some a ≡ true → option_or a b ≡ a
option_or-some None b e = absurd (false≢true e)
option_or-some (Some x) b e = refl

pub item_at-append : {I : Type 0} (h k : List (Stored I)) (p : ℕ) → item_at (h ++ k) p ≡ option_or (item_at h p) (item_at k p)
item_at-append [] k p = refl
item_at-append (s ∷ h) k p = ap (option_or (item_of s p)) (item_at-append h k p) ∙ option_or_assoc (item_of s p) (item_at h p) (item_at k p)

pub is_stored-append : {I : Type 0} (h k : List (Stored I)) (p : ℕ) → is_stored (h ++ k) p ≡ (is_stored h p || is_stored k p)
is_stored-append h k p = ap is_some (item_at-append h k p) ∙ is_some-option_or (item_at h p) (item_at k p)

is_stored-one : {I : Type 0} (s : Stored I) (p : ℕ) → is_stored (s ∷ []) p ≡ is_some (item_of s p)
is_stored-one s p = ap is_some (option_or-none (item_of s p))

slice_get_some : {A : Type 0} (xs : List A) (i : ℕ) → i < length xs → is_some (slice_get xs i) ≡ true
slice_get_some [] i h = absurd (omega arith)
slice_get_some (x ∷ xs) zero h = refl
slice_get_some (x ∷ xs) (suc i) h = slice_get_some xs i (omega arith)

slice_get_in : {A : Type 0} (xs : List A) (i : ℕ) → is_some (slice_get xs i) ≡ true → i < length xs
slice_get_in [] i e = absurd (false≢true e)
slice_get_in (x ∷ xs) zero e = omega arith
slice_get_in (x ∷ xs) (suc i) e = let h : i < length xs = slice_get_in xs i e in omega arith

pub item_of_within : {I : Type 0} (s : Stored I) (p : ℕ) → s.first ≤ p → p < s.first + length s.items → is_some (item_of s p) ≡ true
item_of_within s p low high = rw (le-leb s.first p low) (slice_get_some s.items (p - s.first) (omega arith))

pub item_of_range : {I : Type 0} (s : Stored I) (p : ℕ) → is_some (item_of s p) ≡ true → (s.first ≤ p) × (p < s.first + length s.items)
item_of_range s p e = elim (cases_Bool (leb s.first p)) [
  | inl low ↦
      let le : s.first ≤ p = leb-true s.first p low in
      let inside : p - s.first < length s.items = slice_get_in s.items (p - s.first) (rw low at e) in
      (le, omega arith)
  | inr high ↦ absurd (false≢true (rw high at e))
]

none_from : {A : Type 0} (o : Option A) → is_some o ≡ false → o ≡ None
none_from None e = refl
none_from (Some x) e = absurd (false≢true (sym e))

-- where nothing is stored there is no item
pub no_item : {I : Type 0} (h : List (Stored I)) (p : ℕ) → is_stored h p ≡ false → item_at h p ≡ None
no_item h p e = none_from (item_at h p) e

-- one store more
pub stored_cases : {I : Type 0} (h : List (Stored I)) (s : Stored I) (p : ℕ) → is_stored (h ++ s ∷ []) p ≡ true
    → (is_stored h p ≡ true) ⊎ ((s.first ≤ p) × (p < s.first + length s.items))
stored_cases h s p e = elim (or_cases (is_stored h p) (is_stored (s ∷ []) p) (sym (is_stored-append h (s ∷ []) p) ∙ e)) [
  | inl before ↦ inl before
  | inr one ↦ inr (item_of_range s p (sym (is_stored-one s p) ∙ one))
]

pub stored_still : {I : Type 0} (h k : List (Stored I)) (p : ℕ) → is_stored h p ≡ true → is_stored (h ++ k) p ≡ true
stored_still h k p e = is_stored-append h k p ∙ or_left (is_stored h p) (is_stored k p) e

pub stored_new : {I : Type 0} (h : List (Stored I)) (s : Stored I) (p : ℕ) → s.first ≤ p → p < s.first + length s.items → is_stored (h ++ s ∷ []) p ≡ true
stored_new h s p low high = is_stored-append h (s ∷ []) p ∙ or_right (is_stored h p) (is_stored (s ∷ []) p) (is_stored-one s p ∙ item_of_within s p low high)

-- a longer history has the same items where the shorter one has any
pub item_kept : {I : Type 0} (h k : List (Stored I)) (p : ℕ) → is_stored h p ≡ true → item_at (h ++ k) p ≡ item_at h p
item_kept h k p e = item_at-append h k p ∙ option_or-some (item_at h p) (item_at k p) e

pub stored_count-append : {I : Type 0} (h k : List (Stored I)) → stored_count (h ++ k) ≡ stored_count h + stored_count k
stored_count-append [] k = omega arith
stored_count-append (s ∷ h) k = let e : stored_count (h ++ k) ≡ stored_count h + stored_count k = stored_count-append h k in omega arith

-- a history has one front
pub same_front : {I : Type 0} (h : List (Stored I)) (f g : ℕ) → IsFront h f → IsFront h g → f ≡ g
same_front h f g a b =
    let le : f ≤ g = b.greatest f a.stored in
    let ge : g ≤ f = a.greatest g b.stored in
    omega arith

-- the front of a longer history is no less
pub front_below : {I : Type 0} (h k : List (Stored I)) (f g : ℕ) → IsFront h f → IsFront (h ++ k) g → f ≤ g
front_below h k f g a b = b.greatest f (λ p pos le. stored_still h k p (a.stored p pos le))

-- beginnings
pub begins_self : {A : Type 0} (xs : List A) → Begins xs xs
begins_self xs = ([], sym (append-nil xs))

pub begins_more : {A : Type 0} (xs ys more : List A) → Begins xs ys → Begins xs (ys ++ more)
begins_more xs ys more b = (b.0 ++ more, ap (λ l. l ++ more) b.1 ∙ append_assoc xs b.0 more)

pub begins_trans : {A : Type 0} (xs ys zs : List A) → Begins xs ys → Begins ys zs → Begins xs zs
begins_trans xs ys zs a b = (a.0 ++ b.0, b.1 ∙ ap (λ l. l ++ b.0) a.1 ∙ append_assoc xs a.0 b.0)
