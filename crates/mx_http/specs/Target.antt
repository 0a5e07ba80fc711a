-- Whether bytes end inside the target of a request, as a test.
use Rattle.std.specs.Prelude.{ℕ, Bool, true, false, ◌&&◌, ◌==◌, List, [], ◌∷◌, length, nat_lt, if◌then◌else◌}
use Rattle.std.specs.List.{list_all}
use Rattle.httparse.specs.Grammar.{is_token_byte, is_uri_byte}

-- the bytes from the first that is no part of an empty line; where `cr` is true, a CR stands in front of them
abbrev pub behind_lines : Bool → List ℕ → List ℕ
behind_lines cr [] = if cr then 13 ∷ [] else []
behind_lines cr (b ∷ bytes) =
    if b == 10 then behind_lines false bytes else
    if cr then 13 ∷ b ∷ bytes else
    if b == 13 then behind_lines true bytes else b ∷ bytes

-- the bytes from the first that is no part of a token
abbrev pub behind_token : List ℕ → List ℕ
behind_token [] = []
behind_token (b ∷ bytes) = if is_token_byte b then behind_token bytes else b ∷ bytes

-- a space, and bytes of a target
abbrev pub is_target_part : List ℕ → Bool
is_target_part [] = false
is_target_part (b ∷ bytes) = b == 32 && list_all is_uri_byte bytes

-- a token, a space, and bytes of a target
abbrev pub is_target_line : List ℕ → Bool
is_target_line line = nat_lt (length (behind_token line)) (length line) && is_target_part (behind_token line)

-- the bytes end inside the target of a request
abbrev pub ends_in_target : List ℕ → Bool
ends_in_target bytes = is_target_line (behind_lines false bytes)
