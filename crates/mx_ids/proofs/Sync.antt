-- Reading a sync token: what is read is spelled so, what is spelled so is read, and what is said of it.
use Rattle.std.proofs.Common.{◌≡◌, ℕ, ◌-◌, ◌^◌, ◌<◌, ◌≤◌, min, true, ltb, eqb, length, List, [], ◌∷◌, ◌++◌, Some, Result, Ok, decimal, refl, sym, ap, ◌∙◌, arith, append-nil, IfOk}
use Rattle.std.proofs.lemmas.Option.{cond_some}
use Rattle.std.proofs.lemmas.Bool.{and_parts, and_from, ltb-true, lt-ltb}
use Rattle.mx_ids.specs.Decimal.{numeral}
use Rattle.mx_ids.specs.Sync.{sync_text, IsInRange, IsSyncToken, is_in_range, ended, sync_token_at, judged}
use Rattle.mx_ids.specs.declared.sync_token.SyncToken.{SyncToken}
use Rattle.mx_ids.specs.declared.sync_token.TokenFault.{TokenFault}
use Rattle.mx_ids.proofs.Numerals.{decimal-numeral}
use Rattle.mx_ids.proofs.Read.{then_number, last_number, number_then, no_items, same_number, same_last_number}
use Rattle.mx_ids.proofs.Tokens.{Form, Outcome}
use Rattle.mx_ids.proofs.Tokens as tokens

-- what `s{e}_{r}_{a}_{d}_{b}` prints
pub sync_text_prints : (t : SyncToken) → t.e < 2 ^ 64 → t.r < 2 ^ 64 → t.a < 2 ^ 64 → t.d < 2 ^ 64 → t.b < 2 ^ 64
    → sync_text t ≡ 115 ∷ (decimal t.e ++ 95 ∷ (decimal t.r ++ 95 ∷ (decimal t.a ++ 95 ∷ (decimal t.d ++ 95 ∷ decimal t.b))))
unfolding sync_text
sync_text_prints t e r a d b =
    λ i. 115 ∷ (sym (decimal-numeral t.e e) i ++ 95 ∷ (sym (decimal-numeral t.r r) i ++ 95 ∷ (sym (decimal-numeral t.a a) i ++ 95 ∷ (sym (decimal-numeral t.d d) i ++ 95 ∷ sym (decimal-numeral t.b b) i))))

-- the token that is held after reading, where each number is at most `most`
abbrev pub held : ℕ → SyncToken → SyncToken
held most t = record { e = min t.e most; r = min t.r most; a = min t.a most; d = min t.d most; b = min t.b most }

pub token-sync_text : (most : ℕ) (t : SyncToken) → sync_token_at most (sync_text t) ≡ Some (held most t)
unfolding sync_token_at sync_text
token-sync_text most t =
    let from_d = 95 ∷ (numeral t.d ++ 95 ∷ numeral t.b) in
    let from_a = 95 ∷ (numeral t.a ++ from_d) in
    let from_r = 95 ∷ (numeral t.r ++ from_a) in
    then_number most t.e from_r _ 115 _ refl
    (then_number most t.r from_a _ 95 _ refl
    (then_number most t.a from_d _ 95 _ refl (then_number most t.d (95 ∷ numeral t.b) _ 95 _ refl (last_number most t.b _ 95 _ refl))))

end_of : (e r a d b : ℕ) (rest : List ℕ) (t : SyncToken) → ended e r a d (b, rest) ≡ Some t → (rest ≡ []) × (record { e = e; r = r; a = a; d = d; b = b } ≡ t)
end_of e r a d b rest t h =
    let both = cond_some (eqb (length rest) 0) (record { e = e; r = r; a = a; d = d; b = b }) t h in
    (no_items rest both.0, both.1)

pub token_spells : (most : ℕ) (text : List ℕ) (u : SyncToken) → sync_token_at most text ≡ Some u → (t : SyncToken) × (text ≡ sync_text t) × (held most t ≡ u)
unfolding sync_token_at sync_text
token_spells most text u h =
    let e = number_then most 115 text _ u h in
    let r = number_then most 95 e.1 _ u e.3 in
    let a = number_then most 95 r.1 _ u r.3 in
    let d = number_then most 95 a.1 _ u a.3 in
    let b = number_then most 95 d.1 _ u d.3 in
    let end = end_of (min e.0 most) (min r.0 most) (min a.0 most) (min d.0 most) (min b.0 most) b.1 u b.3 in (
      record { e = e.0; r = r.0; a = a.0; d = d.0; b = b.0 },
      e.2
          ∙ ap (λ xs. 115 ∷ (numeral e.0 ++ xs)) (r.2
          ∙ ap (λ xs. 95 ∷ (numeral r.0 ++ xs)) (a.2
          ∙ ap (λ xs. 95 ∷ (numeral a.0 ++ xs)) (d.2 ∙ ap (λ xs. 95 ∷ (numeral d.0 ++ xs)) (b.2 ∙ ap (λ xs. 95 ∷ xs) (ap (λ xs. numeral b.0 ++ xs) end.0 ∙ append-nil (numeral b.0)))))),
      end.1,
    )

pub held_same : (most : ℕ) (t : SyncToken) → t.e ≤ most → t.r ≤ most → t.a ≤ most → t.d ≤ most → t.b ≤ most → held most t ≡ t
held_same most t e r a d b =
    let e_is : min t.e most ≡ t.e = omega arith in
    let r_is : min t.r most ≡ t.r = omega arith in
    let a_is : min t.a most ≡ t.a = omega arith in
    let d_is : min t.d most ≡ t.d = omega arith in
    let b_is : min t.b most ≡ t.b = omega arith in
    λ i. record { e = e_is i; r = r_is i; a = a_is i; d = d_is i; b = b_is i }

pub same_token : (t u : SyncToken) → sync_text t ≡ sync_text u → t ≡ u
unfolding sync_text
same_token t u same =
    let e = same_number 115 t.e u.e _ _ refl refl same in
    let r = same_number 95 t.r u.r _ _ refl refl e.1 in
    let a = same_number 95 t.a u.a _ _ refl refl r.1 in
    let d = same_number 95 t.d u.d _ _ refl refl a.1 in
    let b = same_last_number 95 t.b u.b d.1 in
    λ i. record { e = e.0 i; r = r.0 i; a = a.0 i; d = d.0 i; b = b i }

range_from : (t : SyncToken) → is_in_range t ≡ true → IsInRange t
range_from t h =
    let to_d = and_parts _ (ltb t.b (2 ^ 48)) h in
    let to_a = and_parts _ (ltb t.d (2 ^ 48)) to_d.0 in
    let to_r = and_parts _ (ltb t.a (2 ^ 48)) to_a.0 in
    let to_e = and_parts (ltb t.e (2 ^ 48)) (ltb t.r (2 ^ 48)) to_r.0 in
    (ltb-true t.e _ to_e.0, ltb-true t.r _ to_e.1, ltb-true t.a _ to_r.1, ltb-true t.d _ to_a.1, ltb-true t.b _ to_d.1)

pub held_in_range : (t : SyncToken) → IsInRange t → held (2 ^ 64 - 1) t ≡ t
held_in_range t range = held_same (2 ^ 64 - 1) t (omega (arith, range.0)) (omega (arith, range.1)) (omega (arith, range.2)) (omega (arith, range.3)) (omega (arith, range.4))

pub held_passes : (t : SyncToken) → is_in_range (held (2 ^ 64 - 1) t) ≡ true → IsInRange t
held_passes t test =
    let range = range_from (held (2 ^ 64 - 1) t) test in
    (omega (arith, range.0), omega (arith, range.1), omega (arith, range.2), omega (arith, range.3), omega (arith, range.4))

pub range_test : (t : SyncToken) → IsInRange t → is_in_range t ≡ true
range_test t h =
    and_from _ (ltb t.b (2 ^ 48)) (and_from _ (ltb t.d (2 ^ 48)) (and_from _ (ltb t.a (2 ^ 48)) (and_from (ltb t.e (2 ^ 48)) (ltb t.r (2 ^ 48)) (lt-ltb t.e _ h.0) (lt-ltb t.r _ h.1)) (lt-ltb t.a _ h.2)) (lt-ltb t.d _ h.3)) (lt-ltb t.b _ h.4)

abbrev pub sync_form : Form SyncToken
sync_form = record {
  text = sync_text;
  read = sync_token_at (2 ^ 64 - 1);
  held = held (2 ^ 64 - 1);
  InRange = IsInRange;
  in_range = is_in_range;
  low = λ t. t.b;
  high = λ t. t.e;
  reads = token-sync_text (2 ^ 64 - 1);
  spells = token_spells (2 ^ 64 - 1);
  same = same_token;
  whole = held_in_range;
  passed = held_passes;
  passes = range_test;
}

pub outcome : (text : List ℕ) (r : Result SyncToken TokenFault) → r ≡ judged (sync_token_at (2 ^ 64 - 1) text) → Outcome sync_form text r
outcome = tokens.outcome sync_form

pub found_by : (text : List ℕ) (r : Result SyncToken TokenFault) → Outcome sync_form text r → IfOk r (λ t. (text ≡ sync_text t) × IsSyncToken t)
found_by = tokens.found_by sync_form

pub back_by : (text : List ℕ) (r : Result SyncToken TokenFault) → Outcome sync_form text r → (t : SyncToken) → text ≡ sync_text t → IsSyncToken t → r ≡ Ok t
back_by = tokens.back_by sync_form
