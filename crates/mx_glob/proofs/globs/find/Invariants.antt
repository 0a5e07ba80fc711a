use Rattle.std.proofs.Common.{◌≡◌, length}
use Rattle.std.specs.Str.{chars}
use Rattle.mx_glob.specs.Globs.{place_of}
use Rattle.mx_glob.specs.Walks.{found}
use Rattle.mx_glob.proofs.globs.find.Given as goal

abbrev pub invariant-places : goal.invariant-places
invariant-places l = found l.same l.start l.end (chars l.pattern) (place_of l.place.before l.place.behind.now) ≡ found l.same l.start l.end (chars l.pattern) (place_of l.from.before l.from.behind.now)

abbrev pub decreases-places : goal.decreases-places
decreases-places l = length l.place.behind.now
