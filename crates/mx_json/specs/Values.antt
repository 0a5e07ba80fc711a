-- A JSON value of this crate beside the data of `serde_json`.
use Rattle.std.specs.Prelude.{List, [], ◌∷◌, ℤ, Option, Some, None, map}
use Rattle.serde_json.specs.Data.{Data, null, boolean, number, string, array, object, Items, no_items, item, Members, no_members, member}
use Rattle.serde_json.specs.Find.{as_i64, of_integer}
use Rattle.serde_json.specs.View.{items_of}
use Rattle.mx_json.specs.declared.members.Member.{Member}
use Rattle.mx_json.specs.declared.value.Json as json
use Rattle.mx_json.specs.declared.value.Json.TheOpen.{Json-F}

-- a number that is held as a whole number of 64 bits; another has no value here, and stands as null
abbrev pub whole : Option ℤ → json.Json
whole (Some z) = json.Int z
whole None = json.Null

-- the value of data that has no fraction
abbrev mutual
  pub json_of : Data → json.Json
  json_of null = json.Null
  json_of (boolean b) = json.Bool b
  json_of (number n) = whole (as_i64 n)
  json_of (string s) = json.Text s
  json_of (array ds) = json.List (jsons_of ds)
  json_of (object ms) = json.Object (members_of_data ms)

  pub jsons_of : Items → List json.Json
  jsons_of no_items = []
  jsons_of (item d ds) = json_of d ∷ jsons_of ds

  pub members_of_data : Members → List (Member json.Json)
  members_of_data no_members = []
  members_of_data (member k d ms) = record { key = k; value = json_of d } ∷ members_of_data ms

abbrev pub data_members : List (Member Data) → Members
data_members [] = no_members
data_members (m ∷ ms) = member m.key m.value (data_members ms)

-- one level, with the data of each value inside
abbrev pub data_step : Json-F Data → Data
data_step Json-F.Null = null
data_step (Json-F.Bool b) = boolean b
data_step (Json-F.Int z) = number (of_integer z)
data_step (Json-F.Text s) = string s
data_step (Json-F.List ds) = array (items_of ds)
data_step (Json-F.Object ms) = object (data_members ms)

-- the data of a value
abbrev pub data_of : json.Json → Data
data_of = json.fold-Json Data data_step

abbrev pub with_data : Member json.Json → Member Data
with_data m = record { key = m.key; value = data_of m.value }

abbrev pub items_data : List json.Json → Items
items_data js = items_of (map data_of js)

abbrev pub members_data : List (Member json.Json) → Members
members_data ms = data_members (map with_data ms)
