-- A value in range is made of its data again.
use Rattle.std.proofs.Common.{◌≡◌, ℕ, ◌^◌, ℤ, pos, negsuc, List, [], ◌∷◌, true, false, nat_lt, Some, refl, sym, ap, ap₂, ◌∙◌, arith}
use Rattle.std.proofs.lemmas.Bool.{or_parts}
use Rattle.std.proofs.lemmas.Bool.Decides.{nat_tests}
use Rattle.std.specs.List.{AllByRecursion}
use Rattle.serde_json.specs.Find.{as_i64, of_integer}
use Rattle.mx_json.specs.Laws.{IsInRange}
use Rattle.mx_json.specs.Numbers.{is_large, largest, has_large, any_in_items, any_in_members}
use Rattle.mx_json.specs.Values.{data_of, json_of, jsons_of, members_of_data, items_data, members_data}
use Rattle.mx_json.specs.declared.members.Member.{Member}
use Rattle.mx_json.specs.declared.value.Json as json
use Rattle.mx_json.specs.declared.value.Json.{Json}
use Rattle.mx_json.proofs.Data.{data-Null, data-Bool, data-Int, data-Text, data-List, data-Object}
use Rattle.mx_json.proofs.Induction.{by_cases}

abbrev Comes : Json → Type 0
Comes j = IsInRange j → json_of (data_of j) ≡ j

below : (n : ℕ) → nat_lt largest n ≡ false → nat_lt n (2 ^ 63) ≡ true
below n h = grind (arith, nat_tests)

held : (z : ℤ) → is_large (of_integer z) ≡ false → as_i64 (of_integer z) ≡ Some z
held (pos n) h = rw (below n h) refl
held (negsuc n) h = refl

int_comes : (z : ℤ) → Comes (json.Int z)
int_comes z h = ap json_of (data-Int z) ∙ rw (held z (sym (ap has_large (data-Int z)) ∙ h)) refl

items_come : (js : List Json) → AllByRecursion Comes js → any_in_items is_large (items_data js) ≡ false → jsons_of (items_data js) ≡ js
items_come [] all h = refl
items_come (j ∷ js) all h = let p = or_parts (has_large (data_of j)) _ h in ap₂ (λ x xs. x ∷ xs) (all.0 p.0) (items_come js all.1 p.1)

members_come : (ms : List (Member Json)) → AllByRecursion (λ m. Comes m.value) ms → any_in_members is_large (members_data ms) ≡ false → members_of_data (members_data ms) ≡ ms
members_come [] all h = refl
members_come (m ∷ ms) all h =
    let p = or_parts (has_large (data_of m.value)) _ h in
    ap₂ (λ (v : Json) (xs : List (Member Json)). record { key = m.key; value = v } ∷ xs) (all.0 p.0) (members_come ms all.1 p.1)

pub comes : (j : Json) → Comes j
comes = by_cases Comes record {
  null = λ h. ap json_of data-Null;
  boolean = λ b h. ap json_of (data-Bool b);
  int = int_comes;
  text = λ s h. ap json_of (data-Text s);
  list = λ js all h. ap json_of (data-List js) ∙ ap json.List (items_come js all (sym (ap has_large (data-List js)) ∙ h));
  object = λ ms all h. ap json_of (data-Object ms) ∙ ap json.Object (members_come ms all (sym (ap has_large (data-Object ms)) ∙ h));
}
