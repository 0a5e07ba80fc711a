use Rattle.std.proofs.Common.{◌≡◌, ◌++◌, ◌∷◌, map, length}
use Rattle.std.specs.Str.{chars, encode_utf8_all}
use denote.Shadow.{shadow}
use denote.Text.{Utf8}
use Rattle.mx_json.specs.Lookups.{first_part, later_parts, marks, parts_of}
use Rattle.mx_json.proofs.paths.read_path.Given as goal

abbrev pub invariant-marks : goal.invariant-marks
invariant-marks l = shadow (Utf8 l.rest)
    × (l.parts ++ (l.part ++ encode_utf8_all (first_part (marks (chars l.rest)))) ∷ map encode_utf8_all (later_parts (marks (chars l.rest))) ≡ parts_of (marks (chars l.path)))

abbrev pub decreases-marks : goal.decreases-marks
decreases-marks l = length l.rest
