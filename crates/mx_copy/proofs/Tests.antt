-- Tests that agree, and the last item that passes one.
use Rattle.std.proofs.Common.{◌≡◌, Bool, true, false, cond, ◌&&◌, List, [], ◌∷◌, filter, Option, Some, None, option_map, refl, sym, ap, ◌∙◌, inl, inr}
use Rattle.std.proofs.lemmas.Bool.{cases_Bool}
use Rattle.std.specs.List.{AllByRecursion}
use Rattle.std.specs.Option.{option_or}
use Rattle.mx_window.specs.Lasts.{last_of}
use Rattle.mx_window.proofs.Lasts.{option_or-none}

-- tests that are true together are the same
pub agree : (a b : Bool) → (a ≡ true → b ≡ true) → (b ≡ true → a ≡ true) → a ≡ b
agree true true there back = refl
agree true false there back = sym (there refl)
agree false true there back = back refl
agree false false there back = refl

pub everywhere : {E : Type 0} {P : E → Type 0} → ((e : E) → P e) → (es : List E) → AllByRecursion P es
everywhere holds [] = tt
everywhere holds (e ∷ es) = (holds e, everywhere holds es)

-- the last one that passes a test, of those that pass another
pub last_of_both : {E : Type 0} (p q : E → Bool) (es : List E) → last_of q (filter p es) ≡ last_of (λ e. p e && q e) es
last_of_both p q [] = refl
last_of_both p q (e ∷ es) = elim (cases_Bool (p e)) [
  | inl passes ↦ rw passes (ap (λ o. option_or o (cond (q e) (Some e) None)) (last_of_both p q es))
  | inr other ↦ rw other (last_of_both p q es ∙ sym (option_or-none (last_of (λ e. p e && q e) es)))
]

pub all_from : {E : Type 0} {P Q : E → Type 0} → ((e : E) → P e → Q e) → (es : List E) → AllByRecursion P es → AllByRecursion Q es
all_from gives [] all = tt
all_from gives (e ∷ es) all = (gives e all.0, all_from gives es all.1)

pub map_none : {E F : Type 0} (f : E → F) (o : Option E) → option_map f o ≡ None → o ≡ None
map_none f None none = refl
map_none f (Some e) none = absurd cc

-- none passes where none passes a weaker test
pub none_stronger : {E : Type 0} (strong weak : E → Bool) → ((e : E) → strong e ≡ true → weak e ≡ true) → (es : List E) → last_of weak es ≡ None → last_of strong es ≡ None
none_stronger strong weak weaker [] none = refl
none_stronger strong weak weaker (e ∷ es) none = by_rest (last_of weak es) (weak e) refl refl none (none_stronger strong weak weaker es)
  where
    by_test : weak e ≡ false → (b : Bool) → strong e ≡ b → cond b (Some e) None ≡ None
    by_test fails true is = let bad : true ≡ false = sym (weaker e is) ∙ fails in absurd cc
    by_test fails false is = refl

    by_rest : (o : Option _) (b : Bool) → last_of weak es ≡ o → weak e ≡ b → option_or o (cond b (Some e) None) ≡ None → (last_of weak es ≡ None → last_of strong es ≡ None) → last_of strong (e ∷ es) ≡ None
    by_rest (Some f) b is test found rest = absurd cc
    by_rest None true is test found rest = absurd cc
    by_rest None false is test found rest = ap (λ o. option_or o (cond (strong e) (Some e) None)) (rest is) ∙ by_test test (strong e) refl

pub none_passes : {E : Type 0} (es : List E) → last_of (λ e. false) es ≡ None
none_passes [] = refl
none_passes (e ∷ es) = ap (λ o. option_or o None) (none_passes es)
