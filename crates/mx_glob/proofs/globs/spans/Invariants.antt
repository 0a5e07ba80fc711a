use Rattle.std.proofs.Common.{◌≡◌, None, length}
use Rattle.std.specs.Str.{chars}
use denote.Shadow.{shadow}
use denote.Text.{Utf8}
use Rattle.mx_glob.specs.Globs.{place_of, spans}
use Rattle.mx_glob.proofs.globs.spans.Given as goal

abbrev pub invariant-pieces : goal.invariant-pieces
invariant-pieces l = shadow (Utf8 l.rest)
    × (spans l.same l.begins l.end (chars l.rest) (place_of l.place.before l.place.behind.now) ≡ spans l.same l.fn.start l.end (chars l.pattern) (place_of None l.text))

abbrev pub decreases-pieces : goal.decreases-pieces
decreases-pieces l = length l.rest
