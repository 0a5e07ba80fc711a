use Rattle.std.proofs.Common.{◌≡◌, map, take}
use Rattle.mx_json.specs.declared.value.Json.TheVariants as json
use Rattle.mx_records.proofs.transactions.path_value.Given as goal

abbrev pub invariant-parts : goal.invariant-parts
invariant-parts l = l.parts ≡ map json.Text (take l.part-index l.part-items)
