-- The body of a call as an object.
use Rattle.std.specs.Prelude.{ℕ, List, [], ◌∷◌, Result, Ok, Err, if◌then◌else◌, nat_le}
use Rattle.mx_create.specs.declared.body.BodyField.TheVariants as body
use Rattle.mx_json.specs.Fields.{is_object}
use Rattle.mx_json.specs.Reading.{read_json}
use Rattle.mx_json.specs.declared.fault.JsonFault.{JsonFault}
use Rattle.mx_json.specs.declared.fault.JsonFault.TheVariants as fault
use Rattle.mx_json.specs.declared.value.Json.{Json}
use Rattle.mx_json.specs.declared.value.Json.TheVariants as json
use Rattle.mx_api.specs.Calls.{and_then}
use Rattle.mx_api.specs.Levels.{levels}
use Rattle.mx_api.specs.declared.refused.Field.TheVariants as field
use Rattle.mx_api.specs.declared.refused.Refused.{Refused}
use Rattle.mx_api.specs.declared.refused.Refused.TheVariants as refused

abbrev pub object_in : Json → Result Json Refused
object_in j = if is_object j then Ok j else Err (refused.BadShape (field.Creation body.Body))

-- the value, where it nests at most 100 levels
abbrev pub shallow_in : Json → Result Json Refused
shallow_in j = if nat_le (levels j) 100 then Ok j else Err refused.TooDeep

-- by what a text is read as; that is never `Memory`
abbrev pub json_by : Result Json JsonFault → Result Json Refused
json_by (Ok j) = shallow_in j
json_by (Err fault.NotJson) = Err refused.NotJson
json_by (Err fault.Fraction) = Err refused.Fraction
json_by (Err fault.IntegerRange) = Err refused.IntegerRange
json_by (Err (fault.Memory _)) = Err refused.NotJson

-- the value that a text is
unfoldable pub json_of : List ℕ → Result Json Refused
json_of bytes = json_by (read_json bytes)

-- the object that a body is
unfoldable pub object_of : List ℕ → Result Json Refused
object_of bytes = and_then object_in (json_of bytes)

-- that of a `POST`, where the empty body counts as the empty object
abbrev pub posted : List ℕ → Result Json Refused
posted [] = Ok (json.Object [])
posted (b ∷ bytes) = object_of (b ∷ bytes)
