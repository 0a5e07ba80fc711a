-- What holds of the JSON of push rules.
use Rattle.std.specs.Prelude.{◌≡◌, true, [], Some}
use Rattle.std.specs.Map.{keys_of}
use Rattle.mx_json.specs.declared.value.Json.{Json}
use Rattle.mx_rules.specs.Reading.{are_new, rules_in}
use Rattle.mx_rules.specs.Rules.{Rules}
use Rattle.mx_rules.specs.Writing.{content_of}

-- no id stands twice in a kind
pub record HasOwnIds (rs : Rules) : Type 0 where
  pub override_rules : are_new [] (keys_of rs.override_rules) ≡ true
  pub content : are_new [] (keys_of rs.content) ≡ true
  pub room : are_new [] (keys_of rs.room) ≡ true
  pub sender : are_new [] (keys_of rs.sender) ≡ true
  pub underride : are_new [] (keys_of rs.underride) ≡ true

-- what is written of rules says them
abbrev pub ContentReadsBack : Type 0
ContentReadsBack = (rs : Rules) → HasOwnIds rs → rules_in (content_of rs) ≡ Some rs

-- a content that says rules is what is written of them, and no id stands twice in a kind
abbrev pub ContentIsWritten : Type 0
ContentIsWritten = (j : Json) (rs : Rules) → rules_in j ≡ Some rs → HasOwnIds rs × (content_of rs ≡ j)
