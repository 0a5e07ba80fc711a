-- Names and words without regard to ASCII case, and numbers of few digits.
use Rattle.std.proofs.Common.{◌≡◌, ℕ, suc, ◌+◌, ◌-◌, ◌*◌, ◌^◌, ◌<◌, ◌≤◌, Bool, true, false, ◌&&◌, if◌then◌else◌, IsTrue, ◌↔◌, List, [], ◌∷◌, length, get_or, take, drop, Some, None, lit≤, refl, sym, ap, subst, ◌∙◌, arith}
use Rattle.std.specs.Char.{digit_value, is_ascii_digit}
use Rattle.std.specs.List.{list_all}
use Rattle.std.proofs.Math.Nat.{pow-le-pow_right, pow-succ'}
use Rattle.std.specs.Str.{bytes_eq, str_to_ascii_lowercase}
use Rattle.std.specs.Str.Parse.{digits_value_after}
use Rattle.std.proofs.lemmas.Bool.{le-leb}
use Rattle.std.proofs.lemmas.List.{take_all}
use Rattle.std.proofs.lemmas.Str.{digit_value_digit}
use Rattle.mx_http.specs.Spans.{number_after}
use Rattle.std.proofs.lemmas.Slice.Eq.{bytes_eq-Decides}

-- a test that decides whether two lists are one is that of their bytes
equal_test : (r t : Bool) (P : Type 0) → (IsTrue r → P) → (P → IsTrue r) → (t ≡ true → P) → (P → t ≡ true) → r ≡ t
equal_test true true P a b c d = refl
equal_test true false P a b c d = sym (d (a refl))
equal_test false true P a b c d = b (c refl)
equal_test false false P a b c d = refl

pub word_test : (r : Bool) (bytes word : List ℕ) → str_to_ascii_lowercase word ≡ word
    → (IsTrue r ↔ (str_to_ascii_lowercase bytes ≡ str_to_ascii_lowercase word)) → r ≡ bytes_eq (str_to_ascii_lowercase bytes) word
word_test r bytes word low test =
    let decides = bytes_eq-Decides (str_to_ascii_lowercase bytes) word in
    equal_test r _ (str_to_ascii_lowercase bytes ≡ word) (λ t. test.0 t ∙ low) (λ e. test.1 (e ∙ sym low)) decides.0 decides.1

-- ---- numbers

-- a number of so many digits, and a digit behind it
pub number_more : (n d all rest after : ℕ) → rest ≡ after + 1 → rest ≤ all → n < 10 ^ (all - rest) → d ≤ 9 → 10 * n + d < 10 ^ (all - after)
number_more n d all rest after e few small low =
    let power : 10 ^ suc (all - rest) ≡ 10 * 10 ^ (all - rest) = pow-succ' 10 (all - rest) in
    let more : all - after ≡ suc (all - rest) = omega (arith, e, few) in
    subst (λ k. 10 * n + d < 10 ^ k) (sym more) (omega (arith, power, small, low))

-- at most 18 digits say a number that has room for one more
pub number_fits : (n k : ℕ) → n < 10 ^ k → k ≤ 18 → n < 1000000000000000000
number_fits n k small few = let most : 10 ^ k ≤ 10 ^ 18 = pow-le-pow_right (lit≤ tt) few in omega (arith, small, most)

-- the number that was read, and one digit more
pub number_step : (n value k : ℕ) (rest whole : List ℕ) → 0 < length rest → 48 ≤ get_or rest 0 0 → get_or rest 0 0 ≤ 57 → value ≡ 10 * n + (get_or rest 0 0 - 48)
    → k ≡ length rest - 1 → number_after n rest ≡ number_after 0 whole → number_after value (take k (drop 1 rest)) ≡ number_after 0 whole
number_step n value k [] whole some low high is size same = absurd (omega arith)
number_step n value k (d ∷ after) whole some low high is size same =
    let all : take k after ≡ after = take_all k after (omega (arith, size)) in
    let digit : is_ascii_digit d ≡ true = λ i. le-leb 48 d low i && le-leb d 57 high i in
    let said : n * 10 + digit_value d ≡ value = omega (arith, is, digit_value_digit d (low, high)) in
    let read : number_after (n * 10 + digit_value d) after ≡ number_after n (d ∷ after) =
    ap (λ b. if b && list_all is_ascii_digit after then Some (digits_value_after 10 (n * 10 + digit_value d) after) else None) (sym digit) in
    ap (number_after value) all ∙ sym (ap (λ v. number_after v after) said) ∙ read ∙ same
