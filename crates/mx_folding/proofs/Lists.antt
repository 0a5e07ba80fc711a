-- A list of rooms by id after a list of what was told.
use Rattle.std.proofs.Common.{◌≡◌, Bool, true, false, cond, List, [], ◌∷◌, ◌++◌, Option, Some, None, is_some, option_map, refl, ap, ap₂, sym, ◌∙◌, inl, inr}
use Rattle.std.proofs.lemmas.Bool.{cases_Bool, or_parts}
use Rattle.std.specs.Option.{option_or}
use Rattle.mx_window.proofs.Each.{list_any-same}
use Rattle.mx_window.proofs.Lasts.{option_or-none}
use Rattle.std.specs.List.{filter_map, cons_option}
use Rattle.std.specs.Option.{option_and_then}
use Rattle.mx_folding.specs.Lists.{at_id, has_id, AreApart, AllToldAt}

at_id-append : {I A : Type 0} (same : I → I → Bool) (i : I) (xs ys : List (I × A)) → at_id same i (xs ++ ys) ≡ option_or (at_id same i xs) (at_id same i ys)
at_id-append same i [] ys = refl
at_id-append same i (p ∷ xs) ys = elim (cases_Bool (same i p.0)) [ inl a ↦ rw a refl | inr a ↦ rw a (at_id-append same i xs ys) ]

at_id-none : {I A : Type 0} (same : I → I → Bool) (i : I) (ps : List (I × A)) → has_id same i ps ≡ false → at_id same i ps ≡ None
at_id-none same i [] h = refl
at_id-none same i (p ∷ ps) h = let parts = or_parts (same i p.0) (has_id same i ps) h in rw (parts.0) (at_id-none same i ps parts.1)

is_some-at_id : {I A : Type 0} (same : I → I → Bool) (i : I) (ps : List (I × A)) → has_id same i ps ≡ is_some (at_id same i ps)
is_some-at_id same i [] = refl
is_some-at_id same i (p ∷ ps) = elim (cases_Bool (same i p.0)) [ inl a ↦ rw a refl | inr a ↦ rw a (is_some-at_id same i ps) ]

has_id-same : {I A : Type 0} (same : I → I → Bool) → ((i j k : I) → same i j ≡ true → same i k ≡ same j k)
    → (i j : I) (ps : List (I × A)) → same i j ≡ true → has_id same i ps ≡ has_id same j ps
has_id-same same alike i j ps h = list_any-same (λ p. same i p.0) (λ p. same j p.0) (λ p. alike i j p.0 h) ps

at_id-same : {I A : Type 0} (same : I → I → Bool) → ((i j k : I) → same i j ≡ true → same i k ≡ same j k)
    → (i j : I) (ps : List (I × A)) → same i j ≡ true → at_id same i ps ≡ at_id same j ps
at_id-same same alike i j [] h = refl
at_id-same same alike i j (p ∷ ps) h = ap₂ (λ b o. cond b (Some p.1) o) (alike i j p.0 h) (at_id-same same alike i j ps h)

map_found : {I B : Type 0} (same : I → I → Bool) (i j : I) (o : Option B) (rest : List (I × B)) → same i j ≡ true → at_id same i rest
    ≡ None → at_id same i (cons_option (option_map (λ b. (j, b)) o) rest) ≡ o
map_found same i j None rest h none = none
map_found same i j (Some b) rest h none = rw h refl

map_other : {I B : Type 0} (same : I → I → Bool) (i j : I) (o : Option B) (rest : List (I × B)) → same i j ≡ false
    → at_id same i (cons_option (option_map (λ b. (j, b)) o) rest) ≡ at_id same i rest
map_other same i j None rest h = refl
map_other same i j (Some b) rest h = rw h refl

-- a map of values under ids, which may drop some
at_id-map : {I A B : Type 0} (same : I → I → Bool) → ((i j k : I) → same i j ≡ true → same i k ≡ same j k)
    → (h : I → A → Option B) → ((i j : I) (a : A) → same i j ≡ true → h i a ≡ h j a)
    → (ps : List (I × A)) → AreApart same ps → (i : I) → at_id same i (filter_map (λ p. option_map (λ b. (p.0, b)) (h p.0 p.1)) ps)
    ≡ option_and_then (h i) (at_id same i ps)
at_id-map same alike h likewise [] apart i = refl
at_id-map {I = I} {B = B} same alike h likewise (p ∷ ps) apart i =
    let rest = at_id-map same alike h likewise ps apart.1 i in
    let mapped : List (I × B) = filter_map (λ p. option_map (λ b. (p.0, b)) (h p.0 p.1)) ps in
    elim (cases_Bool (same i p.0)) [
      | inl a ↦
          let none : at_id same i ps ≡ None = at_id-none same i ps (has_id-same same alike i p.0 ps a ∙ apart.0) in
          map_found same i p.0 (h p.0 p.1) mapped a (rest ∙ ap (option_and_then (h i)) none) ∙ sym (likewise i p.0 p.1 a)
          ∙ ap (λ b. option_and_then (h i) (cond b (Some p.1) (at_id same i ps))) (sym a)
      | inr a ↦ map_other same i p.0 (h p.0 p.1) mapped a ∙ rest ∙ ap (λ b. option_and_then (h i) (cond b (Some p.1) (at_id same i ps))) (sym a)
    ]

told_cases : {D A : Type 0} (step : Option D → Option A → Option A) → step None None ≡ None → (told : Option D) (had : Option A)
    → option_or (option_and_then (λ a. step told (Some a)) had) (option_and_then (λ d. cond (is_some had) None (step (Some d) None)) told) ≡ step told had
told_cases step none None None = sym none
told_cases step none (Some d) None = refl
told_cases step none None (Some a) = option_or-none (step None (Some a))
told_cases step none (Some d) (Some a) = option_or-none (step (Some d) (Some a))

pub all_told_at : {I D A : Type 0} → AllToldAt I D A
all_told_at {I = I} {D = D} {A = A} same alike step none told had apart_told apart_had i =
    at_id-append same i (filter_map (λ p. option_map (λ a. (p.0, a)) (step (at_id same p.0 told) (Some p.1))) had)
    (filter_map (λ p. option_map (λ a. (p.0, a)) (cond (has_id same p.0 had) None (step (Some p.1) None))) told)
    ∙ ap₂ option_or
    (at_id-map same alike (λ j a. step (at_id same j told) (Some a)) (λ j k a h. ap (λ o. step o (Some a)) (at_id-same same alike j k told h)) had apart_had i)
    (at_id-map same alike (λ j d. cond (has_id same j had) None (step (Some d) None))
    (λ j k d h. ap (λ b. cond b None (step (Some d) None)) (has_id-same same alike j k had h)) told apart_told i
    ∙ ap (λ b. option_and_then (λ d. cond b None (step (Some d) None)) (at_id same i told)) (is_some-at_id same i had))
    ∙ told_cases step none (at_id same i told) (at_id same i had)
