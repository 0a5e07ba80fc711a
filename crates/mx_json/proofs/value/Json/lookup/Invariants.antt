use Rattle.std.proofs.Common.{◌≡◌, drop}
use Rattle.mx_json.specs.Lookups.{lookup}
use Rattle.mx_json.proofs.value.Json.lookup.Given as goal

abbrev pub invariant-keys : goal.invariant-keys
invariant-keys l = lookup (drop l.key-index l.path) l.value ≡ lookup l.path l.self
