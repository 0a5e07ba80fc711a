-- The number whose decimal text an id is.
use Rattle.std.proofs.Common.{ℕ, ◌≡◌, ◌<◌, ◌^◌, Bool, true, false, ◌&&◌, if◌then◌else◌, nat_lt, List, Some, None, Result, Ok, Err, decimal, refl, sym, ap, ◌∙◌}
use Rattle.std.proofs.lemmas.Bool.{and_parts, lt-ltb, ltb-true, both_ways}
use Rattle.std.proofs.lemmas.Fmt.{decimal_is_IsNumeral, parse-decimal}
use Rattle.std.proofs.lemmas.Slice.Eq.{bytes_eq-Decides}
use Rattle.std.specs.Str.{bytes_eq}
use Rattle.std.specs.Str.Parse.{ParsesUnsigned, digits_value}
use Rattle.mx_user_reads.specs.Filters.{number_of}

-- a number below 2^64 is that of its own text
pub own_text : (id : List ℕ) (n : ℕ) → n < 2 ^ 64 → bytes_eq (decimal n) id ≡ true → number_of id ≡ Some n
own_text id n small same =
    let is : decimal n ≡ id = (bytes_eq-Decides (decimal n) id).0 same in
    let value : digits_value 10 id ≡ n = ap (digits_value 10) (sym is) ∙ (decimal_is_IsNumeral n small).1 in
    rw (value, same, lt-ltb n (2 ^ 64) small) refl

-- a text whose number, as it is read, has another text is that of no number
no_number : {E : Type 0} (id : List ℕ) (r : Result ℕ E) → ParsesUnsigned 64 10 id r → ((n : ℕ) → r ≡ Ok n → bytes_eq (decimal n) id ≡ false) → number_of id ≡ None
no_number id r parses other = by_test (bytes_eq (decimal v) id && nat_lt v (2 ^ 64)) refl where
  v : ℕ
  v = digits_value 10 id

  by_test : (b : Bool) → (bytes_eq (decimal v) id && nat_lt v (2 ^ 64)) ≡ b → (if b then Some v else None) ≡ None
  by_test false h = refl
  by_test true h =
      let parts = and_parts (bytes_eq (decimal v) id) (nat_lt v (2 ^ 64)) h in
      let small : v < 2 ^ 64 = ltb-true v (2 ^ 64) parts.1 in
      let is : decimal v ≡ id = (bytes_eq-Decides (decimal v) id).0 parts.0 in
      absurd (both_ways (bytes_eq (decimal v) id) (other v (parse-decimal 64 v id r small small (sym is) parses)) parts.0)

-- a text that isn't read
pub unread : {E : Type 0} (id : List ℕ) (fault : E) → ParsesUnsigned 64 10 id (Err fault) → number_of id ≡ None
unread id fault parses = no_number id (Err fault) parses (λ n e. absurd cc)

-- a text that is read as a number of another text
pub other_text : (id : List ℕ) (n : ℕ) → ParsesUnsigned {E = Unit {0}} 64 10 id (Ok n) → bytes_eq (decimal n) id ≡ false → number_of id ≡ None
other_text id n parses apart = no_number {E = Unit {0}} id (Ok n) parses (λ m e. ap (λ k. bytes_eq (decimal k) id) (sym (same m e)) ∙ apart) where
  same : (m : ℕ) → ◌≡◌ {A = Result ℕ (Unit {0})} (Ok n) (Ok m) → n ≡ m
  same m e = cc (e)
