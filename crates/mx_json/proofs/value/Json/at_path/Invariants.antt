use Rattle.std.proofs.Common.{◌≡◌, length}
use Rattle.std.specs.Str.{chars}
use denote.Shadow.{shadow}
use denote.Text.{Utf8}
use Rattle.mx_json.specs.Lookups.{lookup, marks, parts_of}
use Rattle.mx_json.proofs.value.Json.at_path.Given as goal

abbrev pub invariant-parts : goal.invariant-parts
invariant-parts l = shadow (Utf8 l.rest) × (lookup (parts_of (marks (chars l.rest))) l.value ≡ lookup (parts_of (marks (chars l.path))) l.self)

abbrev pub decreases-parts : goal.decreases-parts
decreases-parts l = length l.rest
