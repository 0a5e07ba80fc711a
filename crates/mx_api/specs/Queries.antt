-- The parameters of a query (Client-Server API). Of a repeated parameter the first counts, and unknown ones have no effect.
use Rattle.std.specs.Prelude.{ℕ, ◌+◌, ◌-◌, ◌*◌, ◌==◌, ◌&&◌, min, nat_lt, length, List, [], ◌∷◌, Bool, false, not, Option, Some, None, if◌then◌else◌}
use Rattle.std.specs.List.{list_all}
use Rattle.std.specs.Option.{option_or}
use Rattle.std.specs.Str.{bytes_eq}
use Rattle.mx_ids.specs.Decimal.{is_digit}
use Rattle.mx_api.specs.Errors.{parameter_name}
use Rattle.mx_api.specs.declared.refused.Parameter.{Parameter}

-- the number that decimal digits spell behind `n`
abbrev pub spelled : ℕ → List ℕ → ℕ
spelled n [] = n
spelled n (c ∷ cs) = spelled (n * 10 + (c - 48)) cs

-- one digit or more, and nothing else
abbrev pub is_number : List ℕ → Bool
is_number text = nat_lt 0 (length text) && list_all is_digit text

-- the number that a text of digits alone spells, cut to at most so much
unfoldable pub number_within : ℕ → List ℕ → Option ℕ
number_within most text = if is_number text then Some (min (spelled 0 text) most) else None

-- a filter that is JSON begins with `{`
abbrev pub begins_object : List ℕ → Bool
begins_object [] = false
begins_object (c ∷ cs) = c == 123

-- a value that is there and isn't of a form
abbrev pub is_wrong : (List ℕ → Bool) → Option (List ℕ) → Bool
is_wrong form None = false
is_wrong form (Some value) = not (form value)

-- the parameter of a name, if it is among those that are wrong
abbrev pub wrong_named : List (Parameter × Bool) → List ℕ → Option Parameter
wrong_named [] name = None
wrong_named (p ∷ ps) name = if p.1 && bytes_eq name (parameter_name p.0) then Some p.0 else wrong_named ps name

-- the parameter that is wrong and stands first in a query
abbrev pub first_wrong : List (Parameter × Bool) → List (List ℕ × List ℕ) → Option Parameter
first_wrong judged [] = None
first_wrong judged (p ∷ ps) = option_or (wrong_named judged p.0) (first_wrong judged ps)
