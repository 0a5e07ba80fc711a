-- A reading of bytes that are UTF-8, and of none that aren't.
use Rattle.std.proofs.Common.{◌≡◌, ℕ, cond, List, Option, None, sym, ap, ◌∙◌}
use Rattle.std.proofs.lemmas.Bool.{cases_Bool, cond-false, cond-true}
use Rattle.std.proofs.lemmas.Str.{IsUtf8-from_is_utf8, is_utf8-from_IsUtf8}
use Rattle.std.specs.Prelude.{IsUtf8}
use Rattle.std.specs.Str.{is_utf8}
use mathlib.Core.Logic.{⊎_elim}

module _ {A : Type 0} (f : List ℕ → Option A) where
  pub of_text : (bytes text : List ℕ) → text ≡ bytes → IsUtf8 bytes → cond (is_utf8 bytes) (f bytes) None ≡ f text
  of_text bytes text e is = cond-true _ _ _ (is_utf8-from_IsUtf8 bytes is) ∙ ap f (sym e)

  pub of_bytes : (bytes : List ℕ) → (IsUtf8 bytes → ⊥) → cond (is_utf8 bytes) (f bytes) None ≡ None
  of_bytes bytes isnt = ⊎_elim (λ is. absurd (isnt (IsUtf8-from_is_utf8 bytes is))) (λ e. cond-false _ _ _ e) (cases_Bool (is_utf8 bytes))
