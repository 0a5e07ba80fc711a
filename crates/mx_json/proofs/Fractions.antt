-- The two tests for a fraction, and that no value has one.
use Rattle.std.proofs.Common.{◌≡◌, ap, ap₂, ◌||◌, ℤ, pos, negsuc, false, List, [], ◌∷◌, refl, ◌∙◌}
use Rattle.std.specs.List.{AllByRecursion}
use Rattle.serde_json.specs.Data.{Data, null, boolean, number, string, array, object, Items, no_items, item, Members, no_members, member}
use Rattle.serde_json.specs.Find.{is_float, of_integer}
use Rattle.serde_json.specs.Written.{has_float, items_have_float, members_have_float}
use Rattle.mx_json.specs.Numbers.{any_number, any_in_items, any_in_members}
use Rattle.mx_json.specs.Values.{data_of, items_data, members_data}
use Rattle.mx_json.specs.declared.members.Member.{Member}
use Rattle.mx_json.specs.declared.value.Json.{Json}
use Rattle.mx_json.proofs.Data.{data-Null, data-Bool, data-Int, data-Text, data-List, data-Object}
use Rattle.mx_json.proofs.Induction.{by_cases}

mutual
  pub any_float : (d : Data) → any_number is_float d ≡ has_float d
  any_float null = refl
  any_float (boolean b) = refl
  any_float (number n) = refl
  any_float (string s) = refl
  any_float (array ds) = items_any_float ds
  any_float (object ms) = members_any_float ms

  items_any_float : (ds : Items) → any_in_items is_float ds ≡ items_have_float ds
  items_any_float no_items = refl
  items_any_float (item d ds) = ap₂ (λ a b. a || b) (any_float d) (items_any_float ds)

  members_any_float : (ms : Members) → any_in_members is_float ms ≡ members_have_float ms
  members_any_float no_members = refl
  members_any_float (member k d ms) = ap₂ (λ a b. a || b) (any_float d) (members_any_float ms)

abbrev IsWhole : Json → Type 0
IsWhole j = has_float (data_of j) ≡ false

whole_integer : (z : ℤ) → is_float (of_integer z) ≡ false
whole_integer (pos n) = refl
whole_integer (negsuc n) = refl

whole_items : (js : List Json) → AllByRecursion IsWhole js → items_have_float (items_data js) ≡ false
whole_items [] all = refl
whole_items (j ∷ js) all = rw all.0 (whole_items js all.1)

whole_members : (ms : List (Member Json)) → AllByRecursion (λ m. IsWhole m.value) ms → members_have_float (members_data ms) ≡ false
whole_members [] all = refl
whole_members (m ∷ ms) all = rw all.0 (whole_members ms all.1)

pub is_whole : (j : Json) → IsWhole j
is_whole = by_cases IsWhole record {
  null = ap has_float data-Null;
  boolean = λ b. ap has_float (data-Bool b);
  int = λ z. ap has_float (data-Int z) ∙ whole_integer z;
  text = λ s. ap has_float (data-Text s);
  list = λ js all. ap has_float (data-List js) ∙ whole_items js all;
  object = λ ms all. ap has_float (data-Object ms) ∙ whole_members ms all;
}
