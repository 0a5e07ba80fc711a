use Rattle.std.proofs.Common.{sym, ◌∙◌}
use Rattle.std.specs.Str.{chars}
use Rattle.mx_glob.specs.Globs.{place_of}
use Rattle.mx_glob.proofs.Leftmost.{found_here}
use Rattle.mx_glob.proofs.globs.find.Goals as goal

pub returns-in-Some : goal.returns-in-Some
returns-in-Some c =
    sym (found_here c.args.same c.args.start c.args.end (chars c.args.pattern.now) (place_of c.places.place.before c.places.place.behind.now) _ (sym c.in-Some.ensures))
    ∙ c.places.invariant
