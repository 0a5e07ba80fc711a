-- The chains of two devices over answers to a connection: a sync with limit 1, a sync of a device that hasn't begun, a page of
-- the first one's gap, pages and a sync that are none of its own, and a sync that goes on.
use Rattle.std.specs.Prelude.{◌≡◌, ℕ, cond, true, false, nat_eq, List, [], ◌∷◌, take, Option, Some, None, option_map, codes}
use Rattle.mx_ids.specs.declared.room_id.RoomId.{RoomId}
use Rattle.mx_ids.specs.declared.sync_token.SyncToken.{SyncToken}
use Rattle.mx_event.specs.Lawful.{same_room}
use Rattle.mx_event.specs.declared.event.Event.{Event}
use Rattle.mx_folding.specs.Stories.{Told, Nothing, Anew, More}
use Rattle.mx_view.specs.Left.{bare_part}
use Rattle.mx_filter.specs.declared.parts.EventFilter.{EventFilter}
use Rattle.mx_filter.specs.declared.parts.Selection.{Selection}
use Rattle.mx_fold.specs.Clients.{Client, Exchange, chain}
use Rattle.mx_fold.specs.Replies.{Said, Replied, Showed, PassedOver}
use Rattle.mx_fold.specs.Servers.{Server}
use Rattle.mx_fold_rows.specs.Chains.{timeline_of}
use Rattle.mx_fold_rows.specs.Events.{alice, bob, long_room, message}
use Rattle.mx_fold_rows.specs.Heard.{everything, token, asks, nobody, replied}

-- a server of two devices
abbrev pub server : Server ℕ ℕ
server = record {
  name = codes "example.org";
  user_of = λ device. cond (nat_eq device 0) alice bob;
  defaults = λ user. [];
  view = λ user f room lists. 0;
  delta = λ user f room old new. 0;
  differs = λ user f room old new. false;
  changed = λ v d. v;
  heroes = λ user f room since lists. [];
}

abbrev pub all_events : EventFilter
all_events = record { kinds = record { types = None; not_types = [] }; senders = None; not_senders = []; rooms = None; not_rooms = []; contains_url = None }

-- a filter that passes everything, and one that has lazy members beside
abbrev pub all : Selection
all = record {
  rooms = None;
  not_rooms = [];
  include_leave = false;
  state = all_events;
  timeline = all_events;
  ephemeral = all_events.kinds;
  room_account = all_events.kinds;
  account = all_events.kinds;
  lazy = false;
  redundant = false;
}

abbrev pub other : Selection
other = record all { lazy = true }

abbrev pub room : RoomId
room = record { writer = 0; at = 1 }

abbrev pub other_room : RoomId
other_room = record { writer = 0; at = 2 }

-- what the first reply and the next one say of the room
abbrev pub first_part : Told Event ℕ ℕ
first_part = Anew (record { limited = true; cut = 7; state = take 6 long_room; sent = message 8 alice ∷ [] }) 0

abbrev pub next_part : Told Event ℕ ℕ
next_part = More (record { limited = true; cut = 9; state = []; sent = message 10 alice ∷ [] }) 0

abbrev pub FirstIsTold : Type 0
FirstIsTold = replied alice long_room everything (asks 1) nobody None (token 8 8) ≡ first_part

abbrev pub NextIsTold : Type 0
NextIsTold = replied alice long_room everything (asks 1) nobody (Some (token 8 8)) (token 10 8) ≡ next_part

abbrev pub exchange : ℕ → ℕ → Said ℕ ℕ → Exchange ℕ ℕ
exchange device front said = record { device = device; lists = record { events = take front long_room; receipts = []; accounts = [] }; said = said }

-- a device's sync with a filter, answered
abbrev pub synced : ℕ → Selection → Option SyncToken → SyncToken → Told Event ℕ ℕ → Exchange ℕ ℕ
synced device filter since next told = exchange device next.e
    (Replied (record { filter = filter; since = since; extent = record { after = false; limit = 1; full = false } })
    (record { next = next; rooms = λ r. cond (same_room r room) told Nothing; left = λ r. bare_part next.e; account = [] }))

-- device 0 asks for a page of (0, at], cut at 8, at the front 9: what a page of three says
abbrev pub paged : RoomId → ℕ → Selection → Exchange ℕ ℕ
paged r at filter = exchange 0 9 (Showed (record { room = r; from_at = at; from_cut = 8; to = None; limit = 3; filter = filter })
    (record { more = true; end = 4; members = []; sent = message 5 alice ∷ message 6 alice ∷ message 7 alice ∷ [] }))

abbrev pub held_by : Client ℕ → SyncToken × List (ℕ × ℕ)
held_by c = (c.token, timeline_of (c.rooms room).joined)

-- the token and the timeline of the client of a device with the filter that passes everything
abbrev pub chained : ℕ → List (Exchange ℕ ℕ) → Option (SyncToken × List (ℕ × ℕ))
chained device xs = option_map held_by (chain server device all None xs)

abbrev pub begun : Exchange ℕ ℕ
begun = synced 0 all None (token 8 8) first_part

-- the first reply begins a client, and leaves a gap
abbrev pub Begins : Type 0
Begins = chained 0 (begun ∷ []) ≡ Some (token 8 8, (0, 7) ∷ (8, 8) ∷ [])

-- the page of the gap goes into it
abbrev pub TakesPage : Type 0
TakesPage = chained 0 (begun ∷ paged room 7 all ∷ []) ≡ Some (token 8 8, (0, 4) ∷ (5, 5) ∷ (6, 6) ∷ (7, 7) ∷ (8, 8) ∷ [])

-- a page of another room, of other bounds, or with another filter is passed over
abbrev pub PassesPages : Type 0
PassesPages = chained 0 (begun ∷ paged other_room 7 all ∷ paged room 6 all ∷ paged room 7 other ∷ []) ≡ Some (token 8 8, (0, 7) ∷ (8, 8) ∷ [])

-- so is a reply to a token that the client doesn't hold, or to another filter, or to another device; and any other answer
abbrev pub PassesReplies : Type 0
PassesReplies = chained 0 (begun ∷ synced 0 all (Some (token 7 7)) (token 10 7) next_part ∷ synced 0 other (Some (token 8 8)) (token 10 8) next_part
    ∷ synced 1 all (Some (token 8 8)) (token 10 8) next_part ∷ exchange 0 10 PassedOver ∷ []) ≡ Some (token 8 8, (0, 7) ∷ (8, 8) ∷ [])

-- the reply to its token goes on
abbrev pub GoesOnFrom : Type 0
GoesOnFrom = chained 0 (begun ∷ paged room 7 all ∷ synced 0 all (Some (token 8 8)) (token 10 8) next_part ∷ [])
    ≡ Some (token 10 8, (0, 4) ∷ (5, 5) ∷ (6, 6) ∷ (7, 7) ∷ (8, 8) ∷ (8, 9) ∷ (10, 10) ∷ [])

-- a reply without `since` begins anew
abbrev pub BeginsAnew : Type 0
BeginsAnew = chained 0 (begun ∷ paged room 7 all ∷ begun ∷ []) ≡ Some (token 8 8, (0, 7) ∷ (8, 8) ∷ [])

-- a device whose only sync answers a token has no client
abbrev pub HasNotBegun : Type 0
HasNotBegun = chained 1 (begun ∷ paged room 7 all ∷ synced 1 all (Some (token 8 8)) (token 10 8) next_part ∷ []) ≡ None
