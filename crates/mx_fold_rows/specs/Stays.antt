-- A user who leaves and comes back, and one who is invited.
use Rattle.std.specs.Prelude.{◌≡◌, ℕ, Bool, true, false, not, [], ◌∷◌, List, Option, Some, None, codes}
use Rattle.std.specs.Str.{bytes_eq}
use Rattle.mx_ids.specs.declared.sync_token.SyncToken.{SyncToken}
use Rattle.mx_event.specs.declared.event.Event.{Event}
use Rattle.mx_folding.specs.Parts.{Part}
use Rattle.mx_folding.specs.Stories.{Sync}
use Rattle.mx_view.specs.Left.{left_of}
use Rattle.mx_view.specs.Pictures.{room_at}
use Rattle.mx_view.specs.Readings.{viewer_by}
use Rattle.mx_view.specs.Rooms.{Sieve, room_by}
use Rattle.mx_view.specs.Tokens.{next_token}
use Rattle.mx_fold_rows.specs.Events.{banned_room, bob, left_room, named_room, shared_room}
use Rattle.mx_fold_rows.specs.Said.{said}
use Rattle.mx_fold_rows.specs.Heard.{everything, lazily, token, asks, asks_full_state, asks_state_after, nobody, Silent, Asked, Gone, Change, Whole, places, says, page}

-- The topic that was set while bob was away breaks the timeline; the room isn't new to him, as he was joined at his token.
abbrev pub BreakAtHidden : Type 0
BreakAtHidden = says bob left_room everything (asks 10) nobody (Some (token 8 8)) (token 15 8) ≡ Change true 13 (11 ∷ 12 ∷ []) (14 ∷ 15 ∷ [])

-- the page of the gap has what he saw before he left, with his own leaving
abbrev pub PageOfStay : Type 0
PageOfStay = page bob left_room everything 10 15 15 8 13 ≡ (false, 8, [], 9 ∷ 10 ∷ 11 ∷ [])

-- with the state after the timeline there is no break
abbrev pub StateAfter : Type 0
StateAfter = says bob left_room everything (asks_state_after 10) nobody (Some (token 8 8)) (token 15 8)
    ≡ Change false 8 (12 ∷ 14 ∷ []) (9 ∷ 10 ∷ 11 ∷ 14 ∷ 15 ∷ [])

abbrev pub without_topics : Sieve
without_topics = record everything {
  keeps = λ e. not (bytes_eq e.kind (codes "m.room.topic"));
  keeps_type = λ kind. not (bytes_eq kind (codes "m.room.topic"));
}

-- a hidden state event that the state filter drops is no break
abbrev pub NoBreakAtDropped : Type 0
NoBreakAtDropped = says bob left_room without_topics (asks 10) nobody (Some (token 8 8)) (token 15 8) ≡ Change false 8 [] (9 ∷ 10 ∷ 11 ∷ 14 ∷ 15 ∷ [])

-- he has left, came back to a client that holds nothing of the room, and was invited
abbrev pub HasLeft : Type 0
HasLeft = says bob left_room everything (asks 10) nobody (Some (token 8 8)) (token 13 8) ≡ Gone

abbrev pub CameBack : Type 0
CameBack = says bob left_room everything (asks 10) nobody (Some (token 13 8)) (token 15 8)
    ≡ Whole true 13 (1 ∷ 2 ∷ 3 ∷ 4 ∷ 6 ∷ 7 ∷ 11 ∷ 12 ∷ []) (14 ∷ 15 ∷ [])

abbrev pub IsInvited : Type 0
IsInvited = says bob shared_room everything (asks 10) nobody None (token 8 8) ≡ Asked (1 ∷ 4 ∷ 8 ∷ [])

-- an invite shows the state before it of the types that it shows, under the empty key, and itself, whatever the filter
abbrev pub InviteShows : Type 0
InviteShows = says bob named_room without_topics (asks 10) nobody None (token 15 15) ≡ Asked (1 ∷ 4 ∷ 7 ∷ 8 ∷ 9 ∷ 10 ∷ 11 ∷ 14 ∷ [])

-- one who left before the token isn't told of again, nor is one who was invited before it
abbrev pub LeftAlready : Type 0
LeftAlready = says bob left_room everything (asks 10) nobody (Some (token 12 8)) (token 13 8) ≡ Silent

abbrev pub InvitedAlready : Type 0
InvitedAlready = says bob shared_room everything (asks 10) nobody (Some (token 8 8)) (token 8 8) ≡ Silent

-- without `since` a left room is told of with include_leave alone
abbrev pub LeaveIncluded : Type 0
LeaveIncluded = says bob left_room everything (record (asks 10) { leave = true }) nobody None (token 13 13) ≡ Gone

abbrev pub LeaveLeftOut : Type 0
LeaveLeftOut = says bob left_room everything (asks 10) nobody None (token 13 13) ≡ Silent

abbrev pub of_part : Part Event → Bool × ℕ × List ℕ × List ℕ
of_part p = (p.limited, p.cut, places p.state, places p.sent)

abbrev pub leaving_in : List Event → Sieve → Sync → Option SyncToken → SyncToken → Bool × ℕ × List ℕ × List ℕ
leaving_in all f ask since j =
    let es : List Event = room_at all j.e in
    of_part (left_of (room_by said f bob es) (viewer_by said bob) es ask (next_token since j).b since j.e)

abbrev pub leaving : Sync → Option SyncToken → SyncToken → Bool × ℕ × List ℕ × List ℕ
leaving = leaving_in left_room everything

-- a left room's window ends with the stay; to one who had left before the token nothing is sent, nor to one with no stay
abbrev pub LeftSinceToken : Type 0
LeftSinceToken = leaving (asks 10) (Some (token 8 8)) (token 13 8) ≡ (false, 8, [], 9 ∷ 10 ∷ 11 ∷ [])

abbrev pub LeftLimited : Type 0
LeftLimited = leaving (asks 0) (Some (token 8 8)) (token 13 8) ≡ (true, 11, 9 ∷ 11 ∷ [], [])

abbrev pub LeftBeforeToken : Type 0
LeftBeforeToken = leaving (asks 10) (Some (token 12 8)) (token 13 8) ≡ (false, 13, [], [])

-- without `since` a left room is new; with lazy members of its members those of the senders and one's own
abbrev pub LeftSender : Type 0
LeftSender = leaving_in left_room lazily (asks 1) None (token 13 13) ≡ (true, 10, 1 ∷ 3 ∷ 4 ∷ 6 ∷ 7 ∷ 8 ∷ 9 ∷ [], 11 ∷ [])

-- with full_state the state is whole, and the timeline the same
abbrev pub LeftFullState : Type 0
LeftFullState = leaving (asks_full_state 1) (Some (token 8 8)) (token 13 8) ≡ (true, 10, 1 ∷ 2 ∷ 3 ∷ 4 ∷ 6 ∷ 7 ∷ 8 ∷ 9 ∷ [], 11 ∷ [])

-- a stay ends with the first leaving: one who is banned then sees nothing after it, though anyone reads the room
abbrev pub StayEnds : Type 0
StayEnds = leaving_in banned_room everything (asks 10) (Some (token 8 8)) (token 11 8) ≡ (false, 8, [], 9 ∷ [])

-- to one who had left before the token the ban is told, without a timeline
abbrev pub BannedAfter : Type 0
BannedAfter = says bob banned_room everything (asks 10) nobody (Some (token 10 8)) (token 11 8) ≡ Gone

abbrev pub BannedBare : Type 0
BannedBare = leaving_in banned_room everything (asks_full_state 10) (Some (token 10 8)) (token 11 8) ≡ (false, 11, [], [])

-- a reply's token keeps the position at which its chain began
abbrev pub FirstBase : Type 0
FirstBase = (next_token None (token 12 0)).b ≡ 12

abbrev pub KeptBase : Type 0
KeptBase = (next_token (Some (token 11 10)) (token 12 0)).b ≡ 10
