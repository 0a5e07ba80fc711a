use Rattle.std.proofs.Common.{◌≡◌, length}
use Rattle.std.specs.Str.{chars}
use denote.Shadow.{shadow}
use denote.Text.{Utf8}
use Rattle.mx_glob.specs.Globs.{place_of}
use Rattle.mx_glob.specs.Walks.{past}
use Rattle.mx_glob.proofs.place.past.Given as goal

abbrev pub invariant-piece : goal.invariant-piece
invariant-piece l = shadow (Utf8 l.rest)
    × (past l.same (chars l.rest) (place_of l.place.before l.place.behind.now) ≡ past l.same (chars l.pattern) (place_of l.from.before l.from.behind.now))

abbrev pub decreases-piece : goal.decreases-piece
decreases-piece l = length l.rest
