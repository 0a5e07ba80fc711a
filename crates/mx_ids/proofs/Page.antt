-- Reading a page token: what is read is spelled so, and what is spelled so is read.
use Rattle.std.proofs.Common.{◌≡◌, ℕ, ◌-◌, ◌^◌, ◌<◌, min, true, ltb, eqb, length, List, [], ◌∷◌, ◌++◌, Some, decimal, refl, sym, ap, ◌∙◌, arith, append-nil}
use Rattle.std.proofs.lemmas.Option.{cond_some}
use Rattle.std.proofs.lemmas.Bool.{and_parts, and_from, ltb-true, lt-ltb}
use Rattle.mx_ids.specs.Decimal.{numeral}
use Rattle.mx_ids.specs.Page.{page_text, IsInRange, is_in_range, ended, page_token_at}
use Rattle.mx_ids.specs.declared.page_token.PageToken.{PageToken}
use Rattle.mx_ids.proofs.Numerals.{decimal-numeral}
use Rattle.mx_ids.proofs.Read.{then_number, last_number, number_then, no_items, same_number, same_last_number}
use Rattle.mx_ids.proofs.Tokens.{Form}

-- what `p{at}_{e}` prints
pub page_text_prints : (t : PageToken) → t.at < 2 ^ 64 → t.e < 2 ^ 64 → page_text t ≡ 112 ∷ (decimal t.at ++ 95 ∷ decimal t.e)
unfolding page_text
page_text_prints t at e = λ i. 112 ∷ (sym (decimal-numeral t.at at) i ++ 95 ∷ sym (decimal-numeral t.e e) i)

-- the token that is held after reading, where each number is at most `most`
abbrev pub held : ℕ → PageToken → PageToken
held most t = record { at = min t.at most; e = min t.e most }

pub token-page_text : (most : ℕ) (t : PageToken) → page_token_at most (page_text t) ≡ Some (held most t)
unfolding page_token_at page_text
token-page_text most t = then_number most t.at (95 ∷ numeral t.e) _ 112 _ refl (last_number most t.e _ 95 _ refl)

end_of : (at e : ℕ) (rest : List ℕ) (t : PageToken) → ended at (e, rest) ≡ Some t → (rest ≡ []) × (record { at = at; e = e } ≡ t)
end_of at e rest t h =
    let both = cond_some (eqb (length rest) 0) (record { at = at; e = e }) t h in
    (no_items rest both.0, both.1)

pub token_spells : (most : ℕ) (text : List ℕ) (u : PageToken) → page_token_at most text ≡ Some u → (t : PageToken) × (text ≡ page_text t) × (held most t ≡ u)
unfolding page_token_at page_text
token_spells most text u h =
    let at = number_then most 112 text _ u h in
    let e = number_then most 95 at.1 _ u at.3 in
    let end = end_of (min at.0 most) (min e.0 most) e.1 u e.3 in (
      record { at = at.0; e = e.0 },
      at.2 ∙ ap (λ xs. 112 ∷ (numeral at.0 ++ xs)) (e.2 ∙ ap (λ xs. 95 ∷ xs) (ap (λ xs. numeral e.0 ++ xs) end.0 ∙ append-nil (numeral e.0))),
      end.1,
    )

pub same_token : (t u : PageToken) → page_text t ≡ page_text u → t ≡ u
unfolding page_text
same_token t u same =
    let at = same_number 112 t.at u.at _ _ refl refl same in
    let e = same_last_number 95 t.e u.e at.1 in
    λ i. record { at = at.0 i; e = e i }

pub held_in_range : (t : PageToken) → IsInRange t → held (2 ^ 64 - 1) t ≡ t
held_in_range t range =
    let at_is : min t.at (2 ^ 64 - 1) ≡ t.at = omega (arith, range.0) in
    let e_is : min t.e (2 ^ 64 - 1) ≡ t.e = omega (arith, range.1) in
    λ i. record { at = at_is i; e = e_is i }

pub held_passes : (t : PageToken) → is_in_range (held (2 ^ 64 - 1) t) ≡ true → IsInRange t
held_passes t test =
    let u = held (2 ^ 64 - 1) t in
    let both = and_parts (ltb u.at (2 ^ 48)) (ltb u.e (2 ^ 48)) test in
    (omega (arith, ltb-true u.at _ both.0), omega (arith, ltb-true u.e _ both.1))

pub range_test : (t : PageToken) → IsInRange t → is_in_range t ≡ true
range_test t h = and_from (ltb t.at (2 ^ 48)) (ltb t.e (2 ^ 48)) (lt-ltb t.at _ h.0) (lt-ltb t.e _ h.1)

abbrev pub page_form : Form PageToken
page_form = record {
  text = page_text;
  read = page_token_at (2 ^ 64 - 1);
  held = held (2 ^ 64 - 1);
  InRange = IsInRange;
  in_range = is_in_range;
  low = λ t. t.at;
  high = λ t. t.e;
  reads = token-page_text (2 ^ 64 - 1);
  spells = token_spells (2 ^ 64 - 1);
  same = same_token;
  whole = held_in_range;
  passed = held_passes;
  passes = range_test;
}
