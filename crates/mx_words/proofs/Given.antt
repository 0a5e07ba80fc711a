-- The connections of a way by what the code tested.
use Rattle.std.proofs.Common.{◌≡◌, ◌++◌, ◌<◌, ◌≤◌, ℕ, true, false, Option, Some, nat_lt, refl, sym, arith}
use Rattle.std.specs.Prelude.{Result, Ok, Err}
use Rattle.std.proofs.lemmas.Bool.Decides.{nat_tests}
use Rattle.clap.specs.Words.{Text}
use Rattle.mx_words.specs.Words.{Way, connections_of, most_connections, number_of, too_many}

module _ (way : Way) (word : Text) (given : Option Text) (most n : ℕ)
    (is : Some word ≡ given) (bound : most ≡ most_connections way) (read : n ≡ number_of word) where
  pub refused : (says : Text) → says ≡ too_many way → most < n → ◌≡◌ {A = Result ℕ Text} (Err (says ++ word)) (connections_of way given)
  refused says told test =
      let above : nat_lt (most_connections way) (number_of word) ≡ true = grind (arith, nat_tests) in
      rw (sym is, above, told) refl

  pub taken : n ≤ most → ◌≡◌ {A = Result ℕ Text} (Ok n) (connections_of way given)
  taken test =
      let within : nat_lt (most_connections way) (number_of word) ≡ false = grind (arith, nat_tests) in
      rw (sym is, within, read) refl
