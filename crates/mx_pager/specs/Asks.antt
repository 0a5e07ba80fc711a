-- What a page is asked for: its bounds, and which of them is ahead of a stream's front.
use Rattle.std.specs.Prelude.{ℕ, length, nat_lt, cond, Option, Some, None, option_and_then, option_map, unwrap_or, if◌then◌else◌}
use Rattle.std.specs.Option.{option_or}
use Rattle.mx_ids.specs.declared.sync_token.SyncToken.{SyncToken}
use Rattle.mx_snapshot.specs.declared.snapshot.Snapshot.{Snapshot}
use Rattle.mx_pager.specs.declared.asked.Bound.{Bound}
use Rattle.mx_pager.specs.declared.asked.Bound.TheVariants as bound
use Rattle.mx_pager.specs.declared.asked.PageAsk.{PageAsk}

-- a component that exceeds a front, with that front
abbrev pub exceeds : ℕ → ℕ → Option (ℕ × ℕ)
exceeds asked front = if nat_lt front asked then Some (asked, front) else None

-- the position behind which the place lies
abbrev pub place_of : Bound → ℕ
place_of (bound.Sync t) = t.e
place_of (bound.Page t) = t.at

-- the front of events at which the list was read
abbrev pub cut_of : Bound → ℕ
cut_of (bound.Sync t) = t.e
cut_of (bound.Page t) = t.e

-- the first of e, r, a and d that exceeds its stream's front; that of the inbox is 0
abbrev pub token_ahead : Snapshot → SyncToken → Option (ℕ × ℕ)
token_ahead s t =
    option_or (exceeds t.e (length s.events)) (option_or (exceeds t.r (length s.receipts)) (option_or (exceeds t.a (length s.accounts)) (exceeds t.d 0)))

abbrev pub ahead_of : Snapshot → Bound → Option (ℕ × ℕ)
ahead_of s (bound.Sync t) = token_ahead s t
ahead_of s (bound.Page t) = exceeds t.e (length s.events)

abbrev pub asks_ahead : Snapshot → PageAsk → Option (ℕ × ℕ)
asks_ahead s ask = option_or (option_and_then (ahead_of s) ask.from) (option_and_then (ahead_of s) ask.to)

-- ---- the bounds, where the front of events is this

abbrev pub start_of : ℕ → PageAsk → Bound
start_of front ask = unwrap_or ask.from (bound.Page (record { at = cond ask.backward front 0; e = front }))

abbrev pub low_of : ℕ → PageAsk → ℕ
low_of front ask = cond ask.backward (unwrap_or (option_map place_of ask.to) 0) (place_of (start_of front ask))

abbrev pub high_of : ℕ → PageAsk → ℕ
high_of front ask = cond ask.backward (place_of (start_of front ask)) (unwrap_or (option_map place_of ask.to) front)
