use Rattle.std.proofs.Common.{◌≡◌, length, ◌≤◌}
use Rattle.std.specs.Str.{chars}
use denote.Shadow.{shadow}
use denote.Text.{Utf8}
use Rattle.mx_glob.specs.Walks.{after_star}
use Rattle.mx_glob.proofs.place.after_star.Given as goal

abbrev pub invariant-stars : goal.invariant-stars
invariant-stars l = shadow (Utf8 l.rest) × (after_star (chars l.rest) ≡ after_star (chars l.pattern)) × (length l.rest ≤ length l.pattern)

abbrev pub decreases-stars : goal.decreases-stars
decreases-stars l = length l.rest
