-- The value that a text is.
use Rattle.std.specs.Prelude.{ℕ, List, Option, Some, None, Result, Ok, Err, if◌then◌else◌}
use Rattle.std.specs.Str.{is_utf8}
use Rattle.serde_json.specs.Data.{Data}
use Rattle.serde_json.specs.Read.{read}
use Rattle.serde_json.specs.Written.{has_float}
use Rattle.mx_json.specs.declared.fault.JsonFault.{JsonFault}
use Rattle.mx_json.specs.declared.fault.JsonFault.TheVariants as faults
use Rattle.mx_json.specs.declared.value.Json.{Json}
use Rattle.mx_json.specs.Numbers.{has_large}
use Rattle.mx_json.specs.Values.{json_of}

-- the value of data, or which number refuses it
unfoldable pub checked : Data → Result Json JsonFault
checked d = if has_float d then Err faults.Fraction else (if has_large d then Err faults.IntegerRange else Ok (json_of d))

abbrev pub found : Option Data → Result Json JsonFault
found None = Err faults.NotJson
found (Some d) = checked d

-- what a text is read as
unfoldable pub read_json : List ℕ → Result Json JsonFault
read_json text = if is_utf8 text then found (read text) else Err faults.NotJson
