-- *Picture*: what one unlimited initial sync at a token shows of a room, as filters of the lists; and when a client holds it.
use Rattle.std.specs.Prelude.{◌≡◌, ℕ, true, false, cond, List, map, Option, Some, None, option_map}
use Rattle.std.specs.List.{AllByRecursion}
use Rattle.mx_ids.specs.declared.room_id.RoomId.{RoomId}
use Rattle.mx_ids.specs.declared.sync_token.SyncToken.{SyncToken}
use Rattle.mx_window.specs.Windows.{between}
use Rattle.mx_window.specs.Lasts.{last_of}
use Rattle.mx_event.specs.Shown.{position_of, shown}
use Rattle.mx_event.specs.declared.event.Event.{Event}
use Rattle.mx_folding.specs.Agreement.{filled, Rises, is_owed, IsDue}
use Rattle.mx_folding.specs.Clients.{Held, ClientRoom, held}
use Rattle.mx_folding.specs.Redactions.{is_named}
use Rattle.mx_folding.specs.Rooms.{Room}
use Rattle.mx_folding.specs.Stories.{Standing, Out, In, Asked, standing_by, Holding}
use Rattle.mx_view.specs.Pictures.{room_at, state_shown, timeline_shown}
use Rattle.mx_view.specs.Readings.{is_own, membership_of}
use Rattle.mx_view.specs.Rooms.{Key, Sieve, room_of, stripped_of}
use Rattle.mx_filter.specs.Passes as filters
use Rattle.mx_filter.specs.Sieves.{sieve_of}
use Rattle.mx_filter.specs.declared.parts.Selection.{Selection}
use Rattle.mx_fold.specs.Lists.{Lists, upto, events_in}
use Rattle.mx_fold.specs.Servers.{Server}

-- out of the room, in it, or asked into it with the ids of its stripped state; and what a user who is in sees
pub record Picture (V : Type 0) : Type 0 where
  pub standing : Standing
  pub timeline : List Event
  pub state : Key → Option Event
  pub view : V

abbrev pub stands : Sieve → List ℕ → List Event → Option Event → Standing
stands f user es None = Out
stands f user es (Some e) = standing_by (membership_of e) (map position_of (stripped_of f user es e))

abbrev pub picture : {V D : Type 0} → Server V D → Lists → List ℕ → Selection → SyncToken → RoomId → Picture V
picture w lists user f t room = record {
  standing = cond (filters.picks w.name f room)
      (stands (sieve_of w.name f room) user (events_in lists room) (last_of (is_own user) (room_at (events_in lists room) t.e))) Out;
  timeline = map (λ e. shown (events_in lists room) e t.e) (timeline_shown (sieve_of w.name f room) user (events_in lists room) t.e);
  state = λ k. option_map (λ e. shown (events_in lists room) e t.e) (state_shown (sieve_of w.name f room) (events_in lists room) t.e k);
  view = w.view user f room (upto t lists);
}

-- the positions of a stretch of a timeline
abbrev pub stretch : List Event → ℕ → ℕ → List ℕ
stretch es low high = map position_of (between position_of low high es)

-- *Agrees*, of a joined room: with each open gap filled its timeline is the picture's; what it holds under a key is the
-- picture's, and what is owed is held; a copy is redacted where a redaction of its timeline names it, and not where none
-- up to the front does
pub record RoomShows {V : Type 0} (r : Room Event Key) (es : List Event) (b t front : ℕ) (p : Picture V) (room : ClientRoom Event Key) : Type 0 where
  pub timeline : filled position_of (stretch p.timeline) room.timeline ≡ map position_of p.timeline
  pub order : Rises position_of t 0 t room.timeline
  pub right : (k : Key) (c : Event) → room.state k ≡ Some c → option_map position_of (p.state k) ≡ Some c.id.at
  pub enough : (k : Key) (v : Event) → p.state k ≡ Some v → is_owed r b t room.timeline k v ≡ true → (c : Event) × (room.state k ≡ Some c)
  pub held_copies : AllByRecursion (IsDue r es front (is_named r (held room.timeline))) (held room.timeline)
  pub state_copies : (k : Key) (c : Event) → room.state k ≡ Some c → IsDue r es front (is_named r (held room.timeline)) c

-- *Agrees*, of a room
abbrev pub Shows : {V : Type 0} → Room Event Key → List Event → ℕ → ℕ → ℕ → Picture V → Standing → Holding Event Key V → Type 0
Shows r es b t front p Out had = (had.joined ≡ None) × (had.invited ≡ None)
Shows {V = V} r es b t front p In had =
    (room : ClientRoom Event Key) × (view : V) × (had.joined ≡ Some (room, view)) × RoomShows r es b t front p room × (view ≡ p.view) × (had.invited ≡ None)
Shows r es b t front p (Asked ids) had = (had.joined ≡ None) × (had.invited ≡ Some ids)

-- the client holds of a room what the picture at its token has of it
abbrev pub HoldsPicture : {V D : Type 0} → Server V D → Lists → List ℕ → Selection → SyncToken → ℕ → RoomId → Holding Event Key V → Type 0
HoldsPicture w lists user f t front room had =
    Shows (room_of (sieve_of w.name f room) user (events_in lists room)) (events_in lists room) t.b t.e front (picture w lists user f t room)
    (picture w lists user f t room).standing had

-- Without an open gap a client holds just the picture's timeline, and without lazy members just its state.
abbrev pub ClosedIsPicture : Type 0 → Type 0
ClosedIsPicture V = (r : Room Event Key) (es : List Event) (b t front : ℕ) (p : Picture V) (room : ClientRoom Event Key) → RoomShows r es b t front p room
    → ((cs : List Event) → room.timeline ≡ map Held cs → map position_of cs ≡ map position_of p.timeline)
    × (r.lazy ≡ false → (k : Key) → option_map position_of (room.state k) ≡ option_map position_of (p.state k))
