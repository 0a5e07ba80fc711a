-- The one compact text of a value.
use Rattle.std.specs.Prelude.{ℕ, ◌+◌, List, [], ◌∷◌, ◌++◌, length, Bool, true}
use Rattle.json.specs.Print.{quoted}
use Rattle.serde_json.specs.Written.{compact_text, comma_if}
use Rattle.mx_json.specs.declared.members.Member.{Member}
use Rattle.mx_json.specs.declared.value.Json.{Json}
use Rattle.mx_json.specs.Values.{data_of}

abbrev pub json_text : Json → List ℕ
json_text j = compact_text (data_of j)

-- the items of a list, each after a comma but a first one, with the closing bracket
abbrev pub list_text : Bool → List Json → List ℕ
list_text later [] = 93 ∷ []
list_text later (j ∷ js) = comma_if later ++ (json_text j ++ list_text true js)

-- the members of an object, each after a comma but a first one, with the closing brace
abbrev pub object_text : Bool → List (Member Json) → List ℕ
object_text later [] = 125 ∷ []
object_text later (m ∷ ms) = comma_if later ++ (quoted m.key ++ 58 ∷ (json_text m.value ++ object_text true ms))

-- the length of members, each with its colon and the comma or the brace behind it
abbrev pub members_len : List (Member Json) → ℕ
members_len [] = 0
members_len (m ∷ ms) = length (quoted m.key) + length (json_text m.value) + 2 + members_len ms
