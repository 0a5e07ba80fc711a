-- What a reply and a page say of a room, by the positions of events.
use Rattle.std.specs.Prelude.{ℕ, Bool, true, false, List, map, Option}
use Rattle.mx_ids.specs.declared.sync_token.SyncToken.{SyncToken}
use Rattle.mx_event.specs.Shown.{position_of}
use Rattle.mx_event.specs.declared.event.Event.{Event}
use Rattle.mx_folding.specs.Parts.{Page, page_of, gap_at}
use Rattle.mx_folding.specs.Stories.{Rest, Sync, Told, Nothing, Anew, More, Invited, Left, told}
use Rattle.mx_view.specs.Rooms.{Key, Sieve, room_by, story_by}
use Rattle.mx_view.specs.Tokens.{tokens}
use Rattle.mx_fold_rows.specs.Said.{said}

abbrev pub everything : Sieve
everything = record { keeps = λ e. true; keeps_type = λ kind. true; passes = λ e. true; lazy = false }

abbrev pub lazily : Sieve
lazily = record everything { lazy = true }

-- a room without receipts, account data and counts
abbrev pub no_rest : Rest ℕ ℕ SyncToken
no_rest = record { view = λ t. 0; delta = λ i j. 0; changed = λ v d. v; differs = λ i j. false }

-- the token of a chain that began at b
abbrev pub token : ℕ → ℕ → SyncToken
token e b = record { e = e; r = 0; a = 0; d = 0; b = b }

abbrev pub asks : ℕ → Sync
asks limit = record { after = false; limit = limit; full = false; redundant = false; leave = false }

abbrev pub asks_state_after : ℕ → Sync
asks_state_after limit = record (asks limit) { after = true }

abbrev pub asks_full_state : ℕ → Sync
asks_full_state limit = record (asks limit) { full = true }

abbrev pub nobody : Key → Bool
nobody k = false

-- a part: `limited`, the position of `prev_batch`, its state and its timeline
pub data Heard : Type 0 where
  Silent : Heard
  Whole : Bool → ℕ → List ℕ → List ℕ → Heard
  Change : Bool → ℕ → List ℕ → List ℕ → Heard
  Asked : List ℕ → Heard
  Gone : Heard

abbrev pub places : List Event → List ℕ
places es = map position_of es

abbrev pub heard : Told Event ℕ ℕ → Heard
heard Nothing = Silent
heard (Anew part view) = Whole part.limited part.cut (places part.state) (places part.sent)
heard (More part delta) = Change part.limited part.cut (places part.state) (places part.sent)
heard (Invited ids) = Asked ids
heard Left = Gone

abbrev pub replied : List ℕ → List Event → Sieve → Sync → (Key → Bool) → Option SyncToken → SyncToken → Told Event ℕ ℕ
replied user es f ask heroes since j = told tokens (story_by said f true user es no_rest) ask heroes j.b since j

-- what a reply says: to `since`, at the token j
abbrev pub says : List ℕ → List Event → Sieve → Sync → (Key → Bool) → Option SyncToken → SyncToken → Heard
says user es f ask heroes since j = heard (replied user es f ask heroes since j)

abbrev pub turned : Page Event → Bool × ℕ × List ℕ × List ℕ
turned p = (p.more, p.end, places p.members, places p.sent)

-- a backward page of (low, high] at the front e, from a token that was cut at g: whether something is left out, the position
-- of `end`, the members and the events in rising order
abbrev pub page : List ℕ → List Event → Sieve → ℕ → ℕ → ℕ → ℕ → ℕ → Bool × ℕ × List ℕ × List ℕ
page user es f limit g e low high = turned (page_of (room_by said f user es) es limit e (gap_at low high g))
