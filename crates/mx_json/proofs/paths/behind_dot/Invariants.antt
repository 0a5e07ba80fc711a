use Rattle.std.proofs.Common.{◌≡◌, ◌≤◌, length}
use Rattle.std.specs.Str.{chars}
use denote.Shadow.{shadow}
use denote.Text.{Utf8}
use Rattle.mx_json.specs.Lookups.{behind_dot, marks}
use Rattle.mx_json.proofs.paths.behind_dot.Given as goal

abbrev pub invariant-marks : goal.invariant-marks
invariant-marks l = shadow (Utf8 l.rest) × (behind_dot (marks (chars l.rest)) ≡ behind_dot (marks (chars l.path))) × (length l.rest ≤ length l.path)

abbrev pub decreases-marks : goal.decreases-marks
decreases-marks l = length l.rest
