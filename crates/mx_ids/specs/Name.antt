-- The forms of a server's name (Appendices, Server Name), and of localparts, device ids and access tokens.
use Rattle.std.specs.Prelude.{ℕ, Bool, ◌&&◌, ◌||◌, nat_le, ◌==◌, length, List}
use Rattle.std.specs.Char.{is_ascii_alphanumeric, is_ascii_digit, is_ascii_lowercase}
use Rattle.std.specs.List.{list_all, before_first, after_first}

-- a text of `least` to `most` bytes that pass
abbrev pub is_text_of : ℕ → ℕ → (ℕ → Bool) → List ℕ → Bool
is_text_of least most passes text = nat_le least (length text) && nat_le (length text) most && list_all passes text

-- `a-z`, `0-9`, `.` and `-`
abbrev pub is_host_byte : ℕ → Bool
is_host_byte c = is_ascii_lowercase c || is_ascii_digit c || (c == 46) || (c == 45)

abbrev pub is_host : List ℕ → Bool
is_host text = is_text_of 1 230 is_host_byte text

abbrev pub is_port : List ℕ → Bool
is_port text = is_text_of 1 5 is_ascii_digit text

-- a host, then optionally `:` and a port
abbrev pub is_server_name : List ℕ → Bool
is_server_name text = is_host text || (is_host (before_first (λ c. c == 58) text) && is_port (after_first (λ c. c == 58) text))

-- `a-z`, `0-9`, `.`, `_`, `=`, `-`, `/` and `+` (Appendices, User Identifiers)
abbrev pub is_localpart_byte : ℕ → Bool
is_localpart_byte c = is_ascii_lowercase c || is_ascii_digit c || (c == 46) || (c == 95) || (c == 61) || (c == 45) || (c == 47) || (c == 43)

abbrev pub is_localpart : List ℕ → Bool
is_localpart text = nat_le 1 (length text) && list_all is_localpart_byte text

-- letters, digits, `_` and `-`
abbrev pub is_device_byte : ℕ → Bool
is_device_byte c = is_ascii_alphanumeric c || (c == 95) || (c == 45)

abbrev pub is_device_name : List ℕ → Bool
is_device_name text = is_text_of 1 64 is_device_byte text

-- letters, digits, `_`, `-`, `.` and `~`
abbrev pub is_token_byte : ℕ → Bool
is_token_byte c = is_device_byte c || (c == 46) || (c == 126)

abbrev pub is_access_token : List ℕ → Bool
is_access_token text = is_text_of 1 255 is_token_byte text
