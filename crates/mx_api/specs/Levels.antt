-- How deep a value nests.
use Rattle.std.specs.Prelude.{ℕ}
use Rattle.serde_json.specs.Data.{depth}
use Rattle.mx_json.specs.Values.{data_of}
use Rattle.mx_json.specs.declared.value.Json.{Json}

-- how many levels: a list or an object has one more than the deepest of its values, and any other value has none
abbrev pub levels : Json → ℕ
levels j = depth (data_of j)
