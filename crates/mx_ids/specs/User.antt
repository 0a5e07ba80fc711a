-- The form of a user id, `@localpart:server` (Appendices, User Identifiers).
use Rattle.std.specs.Prelude.{◌≡◌, ℕ, ◌<◌, ◌≤◌, Bool, true, false, not, ◌&&◌, nat_le, ◌==◌, length, List, [], ◌∷◌, ◌++◌}
use Rattle.std.specs.Char.{is_ascii_graphic}
use Rattle.std.specs.List.{list_all, before_first, after_first}

abbrev pub user_id_text : List ℕ → List ℕ → List ℕ
user_id_text localpart server = 64 ∷ (localpart ++ 58 ∷ server)

-- the part after the first `:`
abbrev pub server_of : List ℕ → List ℕ
server_of text = after_first (λ c. c == 58) text

-- a byte from 0x21 to 0x7E that is no `:`
abbrev pub is_local_byte : ℕ → Bool
is_local_byte c = is_ascii_graphic c && not (c == 58)

-- `@`, one or more bytes from 0x21 to 0x7E without `:`, then `:` and one or more bytes from 0x21 to 0x7E; at most 255 bytes in all
abbrev pub IsUserId : List ℕ → Type 0
IsUserId text =
    (localpart : List ℕ) × (server : List ℕ) × (text ≡ user_id_text localpart server)
    × (0 < length localpart) × (list_all is_local_byte localpart ≡ true)
    × (0 < length server) × (list_all is_ascii_graphic server ≡ true)
    × (length text ≤ 255)

-- What the test finds, on lists.

-- one or more bytes from 0x21 to 0x7E
unfoldable pub is_visible : List ℕ → Bool
is_visible text = not (length text == 0) && list_all is_ascii_graphic text

unfoldable pub is_sigil_and_visible : List ℕ → Bool
is_sigil_and_visible [] = false
is_sigil_and_visible (c ∷ cs) = (c == 64) && is_visible cs

unfoldable pub is_user_id_text : List ℕ → Bool
is_user_id_text text = nat_le (length text) 255 && is_sigil_and_visible (before_first (λ c. c == 58) text) && is_visible (server_of text)
