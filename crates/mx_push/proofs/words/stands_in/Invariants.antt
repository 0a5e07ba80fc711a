use Rattle.std.proofs.Common.{◌≡◌, ◌&&◌, length}
use Rattle.std.specs.List.{list_any}
use Rattle.std.specs.Str.{chars}
use denote.Shadow.{shadow}
use denote.Text.{Utf8}
use Rattle.mx_glob.specs.Globs.{onward, place_of}
use Rattle.mx_push.specs.Conditions.{is_boundary, stands_at, stands_in}
use Rattle.mx_push.proofs.words.stands_in.Given as goal

abbrev pub decreases-places : goal.decreases-places
decreases-places l = length l.behind

abbrev pub invariant-places : goal.invariant-places
invariant-places l = shadow (Utf8 l.behind) × (list_any (λ p. is_boundary p && stands_at (chars l.word) p) (onward (place_of l.before l.behind)) ≡ stands_in l.word l.text)
