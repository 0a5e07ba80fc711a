-- What stands in the body of a rule.
use Rattle.std.specs.Prelude.{ℕ, List, [], Option, Some, None, unwrap_or}
use Rattle.mx_json.specs.Fields.{list_of, text_at}
use Rattle.mx_json.specs.declared.value.Json.{Json}

-- the items of a list; another value has none
abbrev pub items_of : Option Json → List Json
items_of None = []
items_of (Some j) = unwrap_or (list_of j) []

-- the text at a key, or the empty one
abbrev pub text_or_none : List ℕ → Json → List ℕ
text_or_none key body = unwrap_or (text_at key body) []
