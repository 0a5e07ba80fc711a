use Rattle.std.proofs.Common.{◌≡◌, length}
use Rattle.std.specs.Str.{chars}
use denote.Shadow.{shadow}
use denote.Text.{Utf8}
use Rattle.mx_push.specs.Properties.{behind}
use Rattle.mx_push.proofs.property.behind.Given as goal

abbrev pub decreases-front : goal.decreases-front
decreases-front l = length l.left

abbrev pub invariant-front : goal.invariant-front
invariant-front l = shadow (Utf8 l.left) × shadow (Utf8 l.rest) × (behind (chars l.left) (chars l.rest) ≡ behind (chars l.front) (chars l.text))
