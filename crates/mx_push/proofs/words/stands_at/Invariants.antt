use Rattle.std.proofs.Common.{◌≡◌, length}
use Rattle.std.specs.Str.{chars}
use denote.Shadow.{shadow}
use denote.Text.{Utf8}
use Rattle.mx_glob.specs.Globs.{place_of}
use Rattle.mx_push.specs.Conditions.{stands_at}
use Rattle.mx_push.proofs.words.stands_at.Given as goal

abbrev pub decreases-word : goal.decreases-word
decreases-word l = length l.left

abbrev pub invariant-word : goal.invariant-word
invariant-word l = shadow (Utf8 l.left) × shadow (Utf8 l.rest)
    × (stands_at (chars l.left) (place_of l.last l.rest) ≡ stands_at (chars l.word) (place_of l.fn.before l.behind))
