-- The decimal text of a number: how it grows by a digit, how it begins, and what `{n}` prints.
use Rattle.std.proofs.Common.{◌≡◌, ℕ, zero, suc, ◌+◌, ◌*◌, ◌/◌, ◌%◌, ◌^◌, ◌<◌, ◌≤◌, cond, List, [], ◌∷◌, ◌++◌, map, decimal, refl, sym, ap, ◌∙◌, arith, ne_eqb}
use Rattle.std.proofs.lemmas.Bool.{cases_lt}
use Rattle.std.proofs.lemmas.Fmt.{decimal_digit, decimal-digits_of}
use Rattle.std.proofs.lemmas.Int.Digits.{digits_of_step}
use Rattle.std.proofs.lemmas.List.{map_push}
use Rattle.std.specs.Int.Digits.{digits_of}
use mathlib.Core.Logic.{⊎_elim}
use Rattle.mx_ids.specs.Decimal.{numeral}

pub numeral-digits_of : (n : ℕ) → 0 < n → numeral n ≡ map (λ d. 48 + d) (digits_of 10 n)
unfolding numeral
numeral-digits_of n some =
    ap (λ t. cond t (48 ∷ []) (map (λ d. 48 + d) (digits_of 10 n))) (ne_eqb n 0 (λ e. omega arith))

pub numeral-zero : numeral 0 ≡ 48 ∷ []
unfolding numeral
numeral-zero = refl

last_digit : (n m d : ℕ) → 0 < m → m / 10 ≡ n → m % 10 ≡ d → numeral m ≡ map (λ d. 48 + d) (digits_of 10 n) ++ (48 + d) ∷ []
last_digit n m d some q r =
    numeral-digits_of m some
    ∙ ap (map (λ d. 48 + d)) (digits_of_step 10 m (omega arith) some ∙ (λ i. digits_of 10 (q i) ++ r i ∷ []))
    ∙ map_push (λ d. 48 + d) (digits_of 10 n) d

-- one more digit
pub numeral_push : (n d : ℕ) → 0 < n → d < 10 → numeral (n * 10 + d) ≡ numeral n ++ (48 + d) ∷ []
numeral_push n d some small =
    last_digit n (n * 10 + d) d (omega arith) (omega arith) (omega arith)
    ∙ ap (λ ds. ds ++ (48 + d) ∷ []) (sym (numeral-digits_of n some))

pub numeral_one : (d : ℕ) → 0 < d → d < 10 → numeral d ≡ (48 + d) ∷ []
numeral_one d some small = last_digit 0 d d some (omega arith) (omega arith)

-- a number above 0 begins with a digit above 0
pub numeral_begins : (turns n : ℕ) → n ≤ turns → 0 < n → (c : ℕ) × (cs : List ℕ) × (numeral n ≡ c ∷ cs) × (48 < c) × (c ≤ 57)
numeral_begins zero n le some = absurd (omega arith)
numeral_begins (suc turns) n le some = ⊎_elim
    (λ small. (48 + n, [], numeral_one n some small, omega arith, omega arith))
    (λ large.
    let front = numeral_begins turns (n / 10) (omega arith) (omega arith) in
    let split : n / 10 * 10 + n % 10 ≡ n = omega arith in (
      front.0,
      front.1 ++ (48 + n % 10) ∷ [],
      ap numeral (sym split) ∙ numeral_push (n / 10) (n % 10) (omega arith) (omega arith) ∙ ap (λ ds. ds ++ (48 + n % 10) ∷ []) front.2,
      front.3,
      front.4,
    ))
    (cases_lt n 10)

pub decimal-numeral : (n : ℕ) → n < 2 ^ 64 → decimal n ≡ numeral n
decimal-numeral n small = ⊎_elim
    (λ l. decimal-digits_of n l small ∙ sym (numeral-digits_of n l))
    (λ l. let z : n ≡ 0 = omega arith in ap decimal z ∙ decimal_digit 0 (omega arith) ∙ sym numeral-zero ∙ ap numeral (sym z))
    (cases_lt 0 n)
