use Rattle.std.proofs.Common.{◌≡◌, ◌++◌, map, drop}
use Rattle.mx_json.specs.declared.value.Json.TheVariants as json
use Rattle.mx_sync_json.proofs.numbers.texts.Given as goal

abbrev pub invariant-texts : goal.invariant-texts
invariant-texts l = l.made.items ++ map json.Text (drop l.text-index l.text-items) ≡ map json.Text l.text-items
