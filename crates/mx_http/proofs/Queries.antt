-- Where the query of a target begins.
use Rattle.std.proofs.Common.{◌≡◌, ℕ, ◌+◌, ◌-◌, ◌<◌, ◌≤◌, List, [], take, drop, length, get_or, ap, sym, ◌∙◌, arith}
use Rattle.std.specs.List.{position_or_len}
use Rattle.std.proofs.lemmas.Bool.{ne_eqb, eq-eqb}
use Rattle.std.proofs.lemmas.List.{take_rest, drop_all}
use Rattle.std.proofs.lemmas.List.Sums.{position_or_len_is}
use Rattle.std.proofs.Math.Dec.{eqb}
use Rattle.mx_http.specs.Queries.{query_of}

pub query_behind : (xs : List ℕ) (i : ℕ) → i < length xs → ((k : ℕ) → k < i → get_or xs k 0 ≡ 63 → ⊥) → get_or xs i 0 ≡ 63
    → take (length xs - (i + 1)) (drop (i + 1) xs) ≡ query_of xs
query_behind xs i within before here =
    let first : position_or_len (λ b. eqb b 63) xs ≡ i =
    position_or_len_is (λ b. eqb b 63) xs i 0 (omega arith) (λ k below. ne_eqb (get_or xs k 0) 63 (before k below)) (λ _. eq-eqb (get_or xs i 0) 63 here) in
    take_rest xs (i + 1) ∙ ap (λ n. drop (n + 1) xs) (sym first)

pub no_query : (xs : List ℕ) (i : ℕ) → length xs ≤ i → ((k : ℕ) → k < i → get_or xs k 0 ≡ 63 → ⊥) → [] ≡ query_of xs
no_query xs i past before =
    let first : position_or_len (λ b. eqb b 63) xs ≡ length xs =
    position_or_len_is (λ b. eqb b 63) xs (length xs) 0 (omega arith) (λ k below. ne_eqb (get_or xs k 0) 63 (before k (omega arith))) (λ same. absurd (omega arith)) in
    sym (ap (λ n. drop (n + 1) xs) first ∙ drop_all (length xs + 1) xs (omega arith))
