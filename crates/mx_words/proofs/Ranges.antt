-- A text that passed a range from 1 on has its number without a sign.
use Rattle.std.proofs.Common.{◌≡◌, ◌≤◌, ℕ, Bool, true, false, [], ◌∷◌, refl, arith}
use Rattle.std.specs.Prelude.{pos}
use Rattle.std.specs.Str.Parse.{IsNumeral, starts_with_minus, without_leading_plus}
use Rattle.std.proofs.lemmas.Int.{ints}
use Rattle.clap.specs.Lexer.{without_minus}
use Rattle.clap.specs.Values.{IsSignedIn}
use Rattle.clap.specs.Walk.{Text}
use Rattle.mx_words.specs.Words.{number_of}

unsigned : (t : Text) → starts_with_minus t ≡ false → without_minus t ≡ t
unsigned [] bare = refl
unsigned (x ∷ xs) bare = rw bare refl

pub in_range : (most : ℕ) (t : Text) → IsSignedIn (pos 1) (pos most) t
    → (without_minus t ≡ t) × IsNumeral 10 (without_leading_plus t) × (1 ≤ number_of t) × (number_of t ≤ most)
in_range most t passed = go (starts_with_minus t) refl where
  go : (b : Bool) → starts_with_minus t ≡ b
      → (without_minus t ≡ t) × IsNumeral 10 (without_leading_plus t) × (1 ≤ number_of t) × (number_of t ≤ most)
  go true minus =
      let low = rw minus at passed.2 in
      absurd (omega (arith, ints))
  go false minus =
      let numeral = rw minus at passed.0 in
      let low = rw minus at passed.2 in
      let high = rw minus at passed.3 in
      (unsigned t minus, numeral, omega (arith, ints), omega (arith, ints))
