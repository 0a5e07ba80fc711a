use denote.Shadow.{shadow}
use denote.Text.{Utf8}
use Rattle.std.proofs.Common.{◌≡◌, ◌++◌, encode_utf8_all, length, map, string_bytes}
use Rattle.std.specs.Str.{chars}
use Rattle.mx_pool.specs.Lines.{shown, shown_char}
use Rattle.mx_pool.proofs.telling.on_one_line.Given as goal

-- what is shown, with what is left
abbrev pub invariant-characters : goal.invariant-characters
invariant-characters l = shadow (Utf8 l.rest) × (string_bytes l.line ++ encode_utf8_all (map shown_char (chars l.rest)) ≡ shown l.text)

abbrev pub decreases-characters : goal.decreases-characters
decreases-characters l = length l.rest
