-- The path and the query of a request's target, the query in the syntax of `application/x-www-form-urlencoded` (URL Standard, section 5).
use Rattle.std.specs.Prelude.{ℕ, ◌==◌, List, [], ◌∷◌, Option, Some, None, map, codes, if◌then◌else◌}
use Rattle.std.specs.List.{after_first, before_first}
use Rattle.std.specs.Str.{bytes_eq}
use Rattle.std.specs.Str.Lossy.{utf8_lossy}
use Rattle.form_urlencoded.specs.Form.{raw_pairs, decode}

-- what follows the first `?` of a target
abbrev pub query_of : List ℕ → List ℕ
query_of target = after_first (λ b. b == 63) target

-- a name and a value, decoded; what isn't UTF-8 then reads as U+FFFD
abbrev pub decoded : List ℕ × List ℕ → List ℕ × List ℕ
decoded pair = (utf8_lossy (decode pair.0), utf8_lossy (decode pair.1))

-- the names and values of a query
abbrev pub parameters : List ℕ → List (List ℕ × List ℕ)
parameters query = map decoded (raw_pairs query)

-- what stands before the first `?` of a target
abbrev pub path_of : List ℕ → List ℕ
path_of target = before_first (λ b. b == 63) target

-- the value of the first parameter of a name
abbrev pub parameter : List ℕ → List (List ℕ × List ℕ) → Option (List ℕ)
parameter name [] = None
parameter name (pair ∷ pairs) = if bytes_eq pair.0 name then Some pair.1 else parameter name pairs

-- the access token: that of the `Authorization` field, or else that of the query
abbrev pub access_token : Option (List ℕ) → List (List ℕ × List ℕ) → Option (List ℕ)
access_token None pairs = parameter (codes "access_token") pairs
access_token (Some token) pairs = Some token
