use Rattle.std.proofs.Common.{◌≡◌, Some, take}
use Rattle.mx_json.specs.Fields.{text_of}
use Rattle.mx_records.specs.Values.{each}
use Rattle.mx_records.proofs.transactions.path_of.Given as goal

abbrev pub invariant-values : goal.invariant-values
invariant-values l = each text_of (take l.value-index l.value-items) ≡ Some l.path
