-- A chain of two devices' clients: a sync with limit 1, a page of its gap, a sync that goes on.
use Rattle.std.specs.Prelude.{◌≡◌, ℕ, true, List, [], ◌∷◌, ◌++◌, map, Option, Some, None}
use Rattle.mx_ids.specs.declared.sync_token.SyncToken.{SyncToken}
use Rattle.mx_event.specs.declared.event.Event.{Event}
use Rattle.mx_folding.specs.Clients.{Entry, Held, Open, ClientRoom}
use Rattle.mx_folding.specs.Chains.{Client, new_client, Turn, Synced, Paged, Opening, after_turns}
use Rattle.mx_folding.specs.Parts.{gap_at}
use Rattle.mx_view.specs.Rooms.{Key, story_by}
use Rattle.mx_view.specs.Tokens.{tokens}
use Rattle.mx_fold_rows.specs.Events.{alice, bob, joined_room, joins, message, long_room, left_room}
use Rattle.mx_fold_rows.specs.Said.{said}
use Rattle.mx_fold_rows.specs.Heard.{everything, no_rest, token, asks, nobody}

abbrev pub room_turns : Type 0
room_turns = List (Turn (Unit {0}) Event Key SyncToken)

abbrev pub client_after : List ℕ → List Event → room_turns → Client (Unit {0}) Event Key ℕ SyncToken
client_after user es turns = after_turns tokens (λ x. story_by said everything true user es no_rest) (new_client (Unit {0}) Event Key ℕ SyncToken) turns

-- positions of copies, and of a gap its two ends
abbrev pub entries : List (Entry Event) → List (ℕ × ℕ)
entries [] = []
entries (Held c ∷ es) = (c.id.at, c.id.at) ∷ entries es
entries (Open gap ∷ es) = (gap.lower, gap.upper) ∷ entries es

abbrev pub timeline_of : Option (ClientRoom Event Key × ℕ) → List (ℕ × ℕ)
timeline_of None = []
timeline_of (Some p) = entries p.0.timeline

abbrev pub timeline_after : List ℕ → List Event → room_turns → List (ℕ × ℕ)
timeline_after user es turns = timeline_of ((client_after user es turns).rooms tt).joined

abbrev pub synced : ℕ → ℕ → Turn (Unit {0}) Event Key SyncToken
synced limit e = Synced (asks limit) (λ x. nobody) (token e 8)

-- a page of three of the gap (0, 7]
abbrev pub paged : Turn (Unit {0}) Event Key SyncToken
paged = Paged 3 9 (λ x. Some (record { before = []; gap = gap_at 0 7 8; behind = Held (message 8 alice) ∷ [] }))

-- the first sync leaves a gap
abbrev pub FirstSync : Type 0
FirstSync = timeline_after alice long_room (synced 1 8 ∷ []) ≡ (0, 7) ∷ (8, 8) ∷ []

-- the page goes into it, and leaves one
abbrev pub WithPage : Type 0
WithPage = timeline_after alice long_room (synced 1 8 ∷ paged ∷ []) ≡ (0, 4) ∷ (5, 5) ∷ (6, 6) ∷ (7, 7) ∷ (8, 8) ∷ []

-- the next sync leaves another
abbrev pub GoesOn : Type 0
GoesOn = timeline_after alice long_room (synced 1 8 ∷ paged ∷ synced 1 10 ∷ []) ≡ (0, 4) ∷ (5, 5) ∷ (6, 6) ∷ (7, 7) ∷ (8, 8) ∷ (8, 9) ∷ (10, 10) ∷ []

-- a client that hasn't begun holds nothing
abbrev pub NotBegun : Type 0
NotBegun = timeline_after bob long_room [] ≡ []

-- what bob's first sync gave him
abbrev pub left_before : List Event
left_before = joined_room ++ joins 8 bob ∷ []

abbrev pub break_gap : Opening Event
break_gap = record {
  before = map Held left_before;
  gap = gap_at 8 13 15;
  behind = Held (joins 14 bob) ∷ Held (message 15 alice) ∷ [];
}

-- bob's page of the break: what he saw before he left stands in the gap's place, in full
abbrev pub PageOfBreak : Type 0
PageOfBreak =
    timeline_after bob left_room (synced 10 8 ∷ synced 10 15 ∷ Paged 10 15 (λ x. Some break_gap) ∷ [])
    ≡ (1, 1) ∷ (2, 2) ∷ (3, 3) ∷ (4, 4) ∷ (5, 5) ∷ (6, 6) ∷ (7, 7) ∷ (8, 8) ∷ (9, 9) ∷ (10, 10) ∷ (11, 11) ∷ (14, 14) ∷ (15, 15) ∷ []
