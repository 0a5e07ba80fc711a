-- The section of a timeline that a sync reply sends, and the chunk of a page (Client-Server API, Syncing and
-- Getting events for a room). `front` is the position that visibility is judged at, (low, high] the window.
use Rattle.std.specs.Prelude.{ℕ, Bool, cond, not, ◌&&◌, List, length, nat_lt}
use Rattle.std.specs.List.{filter}
use Rattle.mx_window.specs.Windows.{between, before_first}
use Rattle.mx_window.specs.Lasts.{last_of, last_at, last}
use Rattle.mx_folding.specs.Rooms.{Room, is_kept}

-- the events of the window that may be sent
abbrev pub sendable : {E K : Type 0} → Room E K → List E → ℕ → ℕ → ℕ → List E
sendable r es front low high = filter (r.sends front) (between r.at low high es)

-- the last state event of the window that the state filter passes and that may not be sent; else the window's lower end
abbrev pub break_at : {E K : Type 0} → Room E K → List E → ℕ → ℕ → ℕ → ℕ
break_at r es front low high = last_at r.at low (last_of (λ e. is_kept r e && not (r.sends front e)) (between r.at low high es))

-- the window of a reply: with the state after the timeline or before it, and the timeline's limit
pub record Window : Type 0 where
  pub after : Bool
  pub limit : ℕ
  pub low : ℕ
  pub high : ℕ

abbrev pub window : Bool → ℕ → ℕ → ℕ → Window
window after limit low high = record { after = after; limit = limit; low = low; high = high }

-- the last `limit` events that may be sent, above the break; with the state after the timeline there is no break
abbrev pub section : {E K : Type 0} → Room E K → List E → ℕ → Window → List E
section r es front w = last w.limit (sendable r es front (cond w.after w.low (break_at r es front w.low w.high)) w.high)

-- the position before the section's first event, or the window's end
abbrev pub cut : {E K : Type 0} → Room E K → List E → ℕ → Window → ℕ
cut r es front w = before_first r.at w.high (section r es front w)

-- an event of the window that may be sent isn't in the section
abbrev pub is_limited : {E K : Type 0} → Room E K → List E → ℕ → Window → Bool
is_limited r es front w = nat_lt (length (section r es front w)) (length (sendable r es front w.low w.high))

-- the events of a backward page, in order of position: the last `limit` within its bounds
abbrev pub chunk : {E K : Type 0} → Room E K → List E → ℕ → ℕ → ℕ → ℕ → List E
chunk r es limit front low high = last limit (sendable r es front low high)
