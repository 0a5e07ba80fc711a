-- What a server answers by, besides its lists, and a room over these lists for a user and a filter.
use Rattle.std.specs.Prelude.{ℕ, Bool, List, Option}
use Rattle.mx_ids.specs.declared.room_id.RoomId.{RoomId}
use Rattle.mx_ids.specs.declared.sync_token.SyncToken.{SyncToken}
use Rattle.mx_json.specs.declared.value.Json.{Json}
use Rattle.mx_event.specs.declared.event.Event.{Event}
use Rattle.mx_folding.specs.Stories.{Rest, FoldsRest, Story}
use Rattle.mx_folding.specs.Visible.{joined_at}
use Rattle.mx_view.specs.Readings.{viewer_of}
use Rattle.mx_view.specs.Rooms.{Key, story_of}
use Rattle.mx_view.specs.Tokens.{tokens}
use Rattle.mx_filter.specs.Passes as filters
use Rattle.mx_filter.specs.Sieves.{sieve_of}
use Rattle.mx_filter.specs.declared.parts.Selection.{Selection}
use Rattle.mx_fold.specs.Lists.{Lists, upto, events_in}

-- V and D are the view and the delta of the rest of a room
pub record Server (V D : Type 0) : Type 0 where
  pub name : List ℕ
  -- the user of a device
  pub user_of : ℕ → List ℕ
  -- global account data that stands where none is stored
  pub defaults : List ℕ → List (List ℕ × Json)
  -- the rest of a room by the lists up to a token, its change by those up to two, and the heroes of the summary that is sent
  pub view : List ℕ → Selection → RoomId → Lists → V
  pub delta : List ℕ → Selection → RoomId → Lists → Lists → D
  pub differs : List ℕ → Selection → RoomId → Lists → Lists → Bool
  pub changed : V → D → V
  pub heroes : List ℕ → Selection → RoomId → Option SyncToken → Lists → List (List ℕ)

abbrev pub rest_of : {V D : Type 0} → Server V D → Lists → List ℕ → Selection → RoomId → Rest V D SyncToken
rest_of w lists user f room = record {
  view = λ j. w.view user f room (upto j lists);
  delta = λ i j. w.delta user f room (upto i lists) (upto j lists);
  changed = λ v d. w.changed v d;
  differs = λ i j. w.differs user f room (upto i lists) (upto j lists);
}

-- a room over these lists, as a user's filter reads it
abbrev pub story : {V D : Type 0} → Server V D → Lists → List ℕ → Selection → RoomId → Story Event Key V D SyncToken
story w lists user f room = story_of (sieve_of w.name f room) (filters.picks w.name f room) user (events_in lists room) (rest_of w lists user f room)

-- *SectionLaw*, of every room
abbrev pub RestsFold : {V D : Type 0} → Server V D → Lists → Type 0
RestsFold w lists = (user : List ℕ) (f : Selection) (room : RoomId)
    → FoldsRest tokens (joined_at (viewer_of user) (events_in lists room)) (rest_of w lists user f room)
