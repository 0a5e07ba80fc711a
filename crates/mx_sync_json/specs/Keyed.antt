-- Members under their keys, as the code keeps them.
use Rattle.std.specs.Prelude.{ℕ, List, map}
use Rattle.mx_json.specs.declared.members.Member.{Member}
use Rattle.mx_json.specs.declared.value.Json.{Json}
use Rattle.mx_event.specs.Forms.{member}

abbrev pub member_in : List ℕ × Json → Member Json
member_in e = member e.0 e.1

-- the members of an object, in the order of their keys
abbrev pub members_in : List (List ℕ × Json) → List (Member Json)
members_in es = map member_in es
