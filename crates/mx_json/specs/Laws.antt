-- What holds of each JSON value.
use Rattle.std.specs.Prelude.{◌≡◌, ◌≤◌, ℕ, List, [], ◌∷◌, Bool, true, false, ◌&&◌, Ok}
use Rattle.std.specs.Str.{is_utf8}
use Rattle.serde_json.specs.Data.{Data, null, boolean, number, string, array, object, Items, no_items, item, Members, no_members, member, depth}
use Rattle.serde_json.specs.Read.{max_depth}
use Rattle.mx_json.specs.Keys.{are_ordered}
use Rattle.mx_json.specs.Numbers.{has_large}
use Rattle.mx_json.specs.Reading.{read_json}
use Rattle.mx_json.specs.Texts.{json_text}
use Rattle.mx_json.specs.Values.{data_of, json_of}
use Rattle.mx_json.specs.declared.value.Json.{Json}

-- each whole number of the value lies within plus or minus 9,007,199,254,740,991
abbrev pub IsInRange : Json → Type 0
IsInRange j = has_large (data_of j) ≡ false

-- the data of a value says all of it
abbrev pub DataIsWhole : Type 0
DataIsWhole = (j : Json) → IsInRange j → json_of (data_of j) ≡ j

abbrev pub data_keys : Members → List (List ℕ)
data_keys no_members = []
data_keys (member k d ms) = k ∷ data_keys ms

-- texts and keys are UTF-8, and the keys of each object are in order
abbrev mutual
  pub is_formed : Data → Bool
  is_formed null = true
  is_formed (boolean b) = true
  is_formed (number n) = true
  is_formed (string s) = is_utf8 s
  is_formed (array ds) = items_are_formed ds
  is_formed (object ms) = are_ordered (data_keys ms) && members_are_formed ms

  pub items_are_formed : Items → Bool
  items_are_formed no_items = true
  items_are_formed (item d ds) = is_formed d && items_are_formed ds

  pub members_are_formed : Members → Bool
  members_are_formed no_members = true
  members_are_formed (member k d ms) = is_utf8 k && (is_formed d && members_are_formed ms)

-- the compact text reads back
abbrev pub TextReadsBack : Type 0
TextReadsBack = (j : Json) → IsInRange j → is_formed (data_of j) ≡ true → depth (data_of j) ≤ max_depth → read_json (json_text j) ≡ Ok j
