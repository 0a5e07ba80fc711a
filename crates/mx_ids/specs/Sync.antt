-- The text of a sync token, and which tokens are in range and in order.
use Rattle.std.specs.Prelude.{ℕ, ◌^◌, ◌<◌, ◌≤◌, Bool, ◌&&◌, nat_lt, ◌==◌, length, if◌then◌else◌, List, ◌∷◌, ◌++◌, Option, Some, None, Result, option_and_then}
use Rattle.mx_ids.specs.Decimal.{numeral}
use Rattle.mx_ids.specs.Fault.{answered}
use Rattle.mx_ids.specs.Mark.{marked_at}
use Rattle.mx_ids.specs.declared.sync_token.SyncToken.{SyncToken}
use Rattle.mx_ids.specs.declared.sync_token.TokenFault.{TokenFault}

-- the one text of a sync token, whatever its numbers
unfoldable pub sync_text : SyncToken → List ℕ
sync_text t = 115 ∷ (numeral t.e ++ 95 ∷ (numeral t.r ++ 95 ∷ (numeral t.a ++ 95 ∷ (numeral t.d ++ 95 ∷ numeral t.b))))

-- each number is below 2^48
abbrev pub IsInRange : SyncToken → Type 0
IsInRange t = (t.e < 2 ^ 48) × (t.r < 2 ^ 48) × (t.a < 2 ^ 48) × (t.d < 2 ^ 48) × (t.b < 2 ^ 48)

-- a token that stands for what a client has seen: in range, and its chain began at or before its event front
abbrev pub IsSyncToken : SyncToken → Type 0
IsSyncToken t = IsInRange t × (t.b ≤ t.e)

-- What the reader finds, on lists.

abbrev pub is_in_range : SyncToken → Bool
is_in_range t = nat_lt t.e (2 ^ 48) && nat_lt t.r (2 ^ 48) && nat_lt t.a (2 ^ 48) && nat_lt t.d (2 ^ 48) && nat_lt t.b (2 ^ 48)

-- the last number, with nothing behind it
abbrev pub ended : ℕ → ℕ → ℕ → ℕ → ℕ × List ℕ → Option SyncToken
ended e r a d p = if length p.1 == 0 then Some (record { e = e; r = r; a = a; d = d; b = p.0 }) else None

-- the token that a text spells, with each number at most `most`
unfoldable pub sync_token_at : ℕ → List ℕ → Option SyncToken
sync_token_at most text =
    option_and_then
    (λ (p : ℕ × List ℕ).
    option_and_then
    (λ (q : ℕ × List ℕ).
    option_and_then
    (λ (u : ℕ × List ℕ). option_and_then (λ (v : ℕ × List ℕ). option_and_then (ended p.0 q.0 u.0 v.0) (marked_at most 95 v.1)) (marked_at most 95 u.1))
    (marked_at most 95 q.1))
    (marked_at most 95 p.1))
    (marked_at most 115 text)

abbrev pub judged : Option SyncToken → Result SyncToken TokenFault
judged = answered is_in_range (λ t. t.b) (λ t. t.e)
