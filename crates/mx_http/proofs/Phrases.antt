-- The reason phrases are those of numbers of three digits.
use Rattle.std.proofs.Common.{◌≡◌, ℕ, ◌<◌, ◌≤◌, List, true, cond, nat_lt, refl, ap, ◌∙◌, None, arith}
use Rattle.std.specs.Prelude.{Option, if◌then◌else◌, ◌==◌, ◌&&◌, nat_le}
use Rattle.std.proofs.lemmas.Bool.{and_parts, leb-true, ltb-true, ne_eqb}
use Rattle.http.specs.StatusCode.{IsStatusCode, reason_phrase}

module _ (n : ℕ) (far : IsStatusCode n → ⊥) where
  other : (k : ℕ) → (nat_le 100 k && nat_lt k 1000) ≡ true → n ≡ k → ⊥
  other k within same =
      let parts = and_parts (nat_le 100 k) (nat_lt k 1000) within in
      let low : 100 ≤ k = leb-true 100 k parts.0 in
      let high : k < 1000 = ltb-true k 1000 parts.1 in
      let here : IsStatusCode n = (omega (arith, low, same), omega (arith, high, same)) in
      far here

  -- the choice of another number is left out
  step : (k : ℕ) (x o : Option (List ℕ)) → (nat_le 100 k && nat_lt k 1000) ≡ true → o ≡ None → (if n == k then x else o) ≡ None
  step k x o within none = ap (λ b. cond b x o) (ne_eqb n k (other k within)) ∙ none

  pub no_phrase : reason_phrase n ≡ None
  no_phrase =
      step 100 _ _ refl (step 101 _ _ refl (step 102 _ _ refl (step 103 _ _ refl (step 200 _ _ refl (step 201 _ _ refl (step 202 _ _ refl (
      step 203 _ _ refl (step 204 _ _ refl (step 205 _ _ refl (step 206 _ _ refl (step 207 _ _ refl (step 208 _ _ refl (step 226 _ _ refl (
      step 300 _ _ refl (step 301 _ _ refl (step 302 _ _ refl (step 303 _ _ refl (step 304 _ _ refl (step 305 _ _ refl (step 307 _ _ refl (
      step 308 _ _ refl (step 400 _ _ refl (step 401 _ _ refl (step 402 _ _ refl (step 403 _ _ refl (step 404 _ _ refl (step 405 _ _ refl (
      step 406 _ _ refl (step 407 _ _ refl (step 408 _ _ refl (step 409 _ _ refl (step 410 _ _ refl (step 411 _ _ refl (step 412 _ _ refl (
      step 413 _ _ refl (step 414 _ _ refl (step 415 _ _ refl (step 416 _ _ refl (step 417 _ _ refl (step 418 _ _ refl (step 421 _ _ refl (
      step 422 _ _ refl (step 423 _ _ refl (step 424 _ _ refl (step 425 _ _ refl (step 426 _ _ refl (step 428 _ _ refl (step 429 _ _ refl (
      step 431 _ _ refl (step 451 _ _ refl (step 500 _ _ refl (step 501 _ _ refl (step 502 _ _ refl (step 503 _ _ refl (step 504 _ _ refl (
      step 505 _ _ refl (step 506 _ _ refl (step 507 _ _ refl (step 508 _ _ refl (step 510 _ _ refl (
      step 511 _ _ refl refl)))))))))))))))))))))))))))))))))))))))))))))))))))))))))))))
