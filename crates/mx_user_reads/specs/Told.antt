-- What is told of a value that is read.
use Rattle.std.specs.Prelude.{Option, Some, None}
use Rattle.mx_ask.specs.declared.refusal.Refusal.TheVariants as refusals
use Rattle.mx_ask.specs.declared.said.Said.{Said}
use Rattle.mx_ask.specs.declared.said.Said.TheVariants as said
use Rattle.mx_json.specs.declared.value.Json.{Json}

abbrev pub not_there : Said
not_there = said.Refused refusals.NotFound

-- the value, or that it isn't there
abbrev pub told : Option Json → Said
told None = not_there
told (Some j) = said.Content j
