-- A part of a path, decoded.
use Rattle.std.proofs.Common.{◌≡◌, ℕ, List, Bool, true, false, cond, Option, Some, None, refl, subst}
use Rattle.std.specs.Str.{IsUtf8, is_utf8}
use Rattle.std.proofs.lemmas.Str.{IsUtf8-from_is_utf8, is_utf8-from_IsUtf8}
use Rattle.percent_encoding.specs.Percent.{percent_decode}
use Rattle.mx_http.specs.Paths.{decoded_part}

-- what is UTF-8 is the decoded part
pub decodes : (part text bytes : List ℕ) → text ≡ bytes → bytes ≡ percent_decode part → IsUtf8 bytes → ◌≡◌ {A = Option (List ℕ)} (Some text) (decoded_part part)
decodes part text bytes same is utf8 = rw (same, is, is_utf8-from_IsUtf8 _ (subst IsUtf8 is utf8)) refl

-- what isn't UTF-8 is no part
pub fails : (part : List ℕ) → (IsUtf8 (percent_decode part) → ⊥) → ◌≡◌ {A = Option (List ℕ)} None (decoded_part part)
fails part broken = chosen (is_utf8 (percent_decode part)) refl
  where
    chosen : (b : Bool) → is_utf8 (percent_decode part) ≡ b → ◌≡◌ {A = Option (List ℕ)} None (cond b (Some (percent_decode part)) None)
    chosen true e = absurd (broken (IsUtf8-from_is_utf8 _ e))
    chosen false e = refl
