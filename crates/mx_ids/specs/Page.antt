-- The text of a page token, and which tokens are in range and in order.
use Rattle.std.specs.Prelude.{ℕ, ◌^◌, ◌<◌, ◌≤◌, Bool, ◌&&◌, nat_lt, ◌==◌, length, if◌then◌else◌, List, ◌∷◌, ◌++◌, Option, Some, None, Result, option_and_then}
use Rattle.mx_ids.specs.Decimal.{numeral}
use Rattle.mx_ids.specs.Fault.{answered}
use Rattle.mx_ids.specs.Mark.{marked_at}
use Rattle.mx_ids.specs.declared.page_token.PageToken.{PageToken}
use Rattle.mx_ids.specs.declared.sync_token.TokenFault.{TokenFault}

-- the one text of a page token, whatever its numbers
unfoldable pub page_text : PageToken → List ℕ
page_text t = 112 ∷ (numeral t.at ++ 95 ∷ numeral t.e)

-- both numbers are below 2^48
abbrev pub IsInRange : PageToken → Type 0
IsInRange t = (t.at < 2 ^ 48) × (t.e < 2 ^ 48)

-- a token that stands for a place in a list of events: in range, and the place is at or before the front
abbrev pub IsPageToken : PageToken → Type 0
IsPageToken t = IsInRange t × (t.at ≤ t.e)

-- What the reader finds, on lists.

abbrev pub is_in_range : PageToken → Bool
is_in_range t = nat_lt t.at (2 ^ 48) && nat_lt t.e (2 ^ 48)

-- the last number, with nothing behind it
abbrev pub ended : ℕ → ℕ × List ℕ → Option PageToken
ended at p = if length p.1 == 0 then Some (record { at = at; e = p.0 }) else None

-- the token that a text spells, with each number at most `most`
unfoldable pub page_token_at : ℕ → List ℕ → Option PageToken
page_token_at most text = option_and_then (λ (p : ℕ × List ℕ). option_and_then (ended p.0) (marked_at most 95 p.1)) (marked_at most 112 text)

abbrev pub judged : Option PageToken → Result PageToken TokenFault
judged = answered is_in_range (λ t. t.at) (λ t. t.e)
