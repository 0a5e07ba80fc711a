use Rattle.std.proofs.Common.{◌≡◌, length}
use Rattle.std.specs.Str.{chars}
use denote.Shadow.{shadow}
use denote.Text.{Utf8}
use Rattle.mx_json.specs.Lookups.{is_named, marks}
use Rattle.mx_json.proofs.paths.is_named.Given as goal

abbrev pub invariant-marks : goal.invariant-marks
invariant-marks l = shadow (Utf8 l.rest) × shadow (Utf8 l.left) × (is_named (marks (chars l.rest)) (chars l.left) ≡ is_named (marks (chars l.path)) (chars l.key))

abbrev pub decreases-marks : goal.decreases-marks
decreases-marks l = length l.rest
