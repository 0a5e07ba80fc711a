-- One room over time, for one user: its events with the user's memberships, what a sync reply says of it, and what a
-- client holds of it (Client-Server API, Syncing).
use Rattle.std.specs.Prelude.{◌≡◌, ℕ, ◌≤◌, Bool, true, false, cond, ◌||◌, List, Option, Some, None, is_some, nat_lt, ⊤}
use Rattle.std.specs.Option.{option_and_then}
use Rattle.std.specs.List.{AllByRecursion}
use Rattle.mx_window.specs.Windows.{between}
use Rattle.mx_window.specs.Lasts.{last_of}
use Rattle.mx_folding.specs.Sections.{window}
use Rattle.mx_folding.specs.Rooms.{Room, IsRoom, StaysSent}
use Rattle.mx_folding.specs.Parts.{Part, part_of, picks, picks_new, has_some}
use Rattle.mx_folding.specs.Clients.{ClientRoom, empty_room, with_part}
use Rattle.mx_folding.specs.Agreement.{RoomAgrees}
use Rattle.mx_folding.specs.Visible.{Membership, Join, Invite, Leave, Ban, is_join}

-- sync tokens: the position of each in the stream of events, and which comes before which in every stream
pub record Tokens (T : Type 0) : Type 0 where
  pub event : T → ℕ
  pub before : T → T → Bool

pub record IsTokens {T : Type 0} (ts : Tokens T) : Type 0 where
  pub rises : (i j : T) → ts.before i j ≡ true → ts.event i ≤ ts.event j

-- the position that a sync without `since` begins after is 0
abbrev pub position : {T : Type 0} → Tokens T → Option T → ℕ
position ts None = 0
position ts (Some i) = ts.event i

-- The rest that a client holds of a room: V is the view of receipts, room account data, unread counts and summary at a
-- token, D what a reply says of its change.
pub record Rest (V D T : Type 0) : Type 0 where
  pub view : T → V
  pub delta : T → T → D
  pub changed : V → D → V
  -- a reply has something to say of the change
  pub differs : T → T → Bool

-- the section law: the view at a token is the one at an earlier one with what a reply says of the change, and where a
-- reply has nothing to say it is the same
pub record FoldsRest {V D T : Type 0} (ts : Tokens T) (joined : ℕ → Bool) (rest : Rest V D T) : Type 0 where
  pub folds : (i j : T) → ts.before i j ≡ true → joined (ts.event i) ≡ true → joined (ts.event j) ≡ true
      → rest.changed (rest.view i) (rest.delta i j) ≡ rest.view j
  pub still : (i j : T) → ts.before i j ≡ true → joined (ts.event i) ≡ true → joined (ts.event j) ≡ true → rest.differs i j ≡ false → rest.view j ≡ rest.view i

-- a room over time
pub record Story (E K V D T : Type 0) : Type 0 where
  pub room : Room E K
  pub events : List E
  -- the event is the user's member event, and the membership that it gives, if it is one that there is
  pub is_own : E → Bool
  pub membership : E → Option Membership
  -- the positions of the stripped state that is sent with the invite
  pub stripped : E → List ℕ
  -- the filter picks the room
  pub picked : Bool
  pub rest : Rest V D T

abbrev pub own_at : {E K V D T : Type 0} → Story E K V D T → ℕ → Option E
own_at g p = last_of g.is_own (between g.room.at 0 p g.events)

abbrev pub joined_in : {E K V D T : Type 0} → Story E K V D T → ℕ → Bool
joined_in g p = is_join (option_and_then g.membership (own_at g p))

-- what the laws ask of a room over time
pub record IsStory {E K V D T : Type 0} (ts : Tokens T) (g : Story E K V D T) : Type 0 where
  pub room : IsRoom g.room g.events
  -- what a joined user may see stays visible
  pub stays : (s : ℕ) → joined_in g s ≡ true → StaysSent g.room g.events s
  -- a member event has one of the four memberships
  pub kinds : AllByRecursion (λ e. g.is_own e ≡ true → is_some (g.membership e) ≡ true) g.events
  -- who stayed joined is joined
  pub stayed : (b s : ℕ) → b ≤ s → g.room.stayed b s ≡ true → joined_in g s ≡ true
  pub rest : FoldsRest ts (joined_in g) g.rest

-- how the user stands to a room that the filter picks
pub data Standing : Type 0 where
  Out : Standing
  In : Standing
  Asked : List ℕ → Standing

abbrev pub standing_by : Option Membership → List ℕ → Standing
standing_by None ids = Out
standing_by (Some Join) ids = In
standing_by (Some Invite) ids = Asked ids
standing_by (Some Leave) ids = Out
standing_by (Some Ban) ids = Out

abbrev pub standing_of : {E K V D T : Type 0} → Story E K V D T → Option E → Standing
standing_of g None = Out
standing_of g (Some e) = standing_by (g.membership e) (g.stripped e)

abbrev pub standing : {E K V D T : Type 0} → Story E K V D T → ℕ → Standing
standing g p = cond g.picked (standing_of g (own_at g p)) Out

-- what a reply says of a room: nothing; all of a new room; what is new in one that the client holds; an invite with its
-- stripped state; that the user left
pub data Told (E V D : Type 0) : Type 0 where
  Nothing : Told E V D
  Anew : Part E → V → Told E V D
  More : Part E → D → Told E V D
  Invited : List ℕ → Told E V D
  Left : Told E V D

-- what a sync asks for: the state after the timeline, the timeline's limit, full_state, include_redundant_members, include_leave
pub record Sync : Type 0 where
  pub after : Bool
  pub limit : ℕ
  pub full : Bool
  pub redundant : Bool
  pub leave : Bool

-- a joined room is new without `since`, and where the user wasn't joined then
abbrev pub told_joined : {E K V D T : Type 0} → Tokens T → Story E K V D T → Option T → T → Part E → Part E → Told E V D
told_joined ts g None j anew more = Anew anew (g.rest.view j)
told_joined ts g (Some i) j anew more =
    cond (joined_in g (ts.event i)) (cond (has_some more || g.rest.differs i j) (More more (g.rest.delta i j)) Nothing) (Anew anew (g.rest.view j))

-- an invite is sent once
abbrev pub told_invited : {E K V D T : Type 0} → Tokens T → Story E K V D T → Option T → E → Told E V D
told_invited ts g None e = Invited (g.stripped e)
told_invited ts g (Some i) e = cond (nat_lt (ts.event i) (g.room.at e)) (Invited (g.stripped e)) Nothing

-- a room that the user left is sent once; without `since` only with include_leave
abbrev pub told_left : {E K V D T : Type 0} → Tokens T → Story E K V D T → Option T → Bool → E → Told E V D
told_left ts g None leave e = cond leave Left Nothing
told_left ts g (Some i) leave e = cond (nat_lt (ts.event i) (g.room.at e)) Left Nothing

abbrev pub told_by : {E K V D T : Type 0} → Tokens T → Story E K V D T → Option T → T → Bool → Part E → Part E → E → Option Membership → Told E V D
told_by ts g since j leave anew more e None = Nothing
told_by ts g since j leave anew more e (Some Join) = told_joined ts g since j anew more
told_by ts g since j leave anew more e (Some Invite) = told_invited ts g since e
told_by ts g since j leave anew more e (Some Leave) = told_left ts g since leave e
told_by ts g since j leave anew more e (Some Ban) = told_left ts g since leave e

abbrev pub told_of : {E K V D T : Type 0} → Tokens T → Story E K V D T → Option T → T → Bool → Part E → Part E → Option E → Told E V D
told_of ts g since j leave anew more None = Nothing
told_of ts g since j leave anew more (Some e) = told_by ts g since j leave anew more e (g.membership e)

-- what the reply of T = j says of a room; b is the token's component b
abbrev pub told : {E K V D T : Type 0} → Tokens T → Story E K V D T → Sync → (K → Bool) → ℕ → Option T → T → Told E V D
told ts g ask heroes b since j =
    cond g.picked (told_of ts g since j ask.leave
    (part_of g.room g.events (ts.event j) (window ask.after ask.limit 0 (ts.event j)) (picks_new g.room heroes))
    (part_of g.room g.events (ts.event j) (window ask.after ask.limit (position ts since) (ts.event j))
    (picks g.room ask.redundant b (position ts since) (cond ask.full 0 (position ts since)) heroes))
    (own_at g (ts.event j))) Nothing

-- what a client holds of a room
pub record Holding (E K V : Type 0) : Type 0 where
  pub joined : Option (ClientRoom E K × V)
  pub invited : Option (List ℕ)

abbrev pub more_joined : {E K V D T : Type 0} → Story E K V D T → Bool → ℕ → ℕ → Part E → D → Option (ClientRoom E K × V) → Option (ClientRoom E K × V)
more_joined g after s t part delta None = None
more_joined g after s t part delta (Some p) = Some (with_part g.room after s t part p.0, g.rest.changed p.1 delta)

-- what it holds after a reply
abbrev pub with_told : {E K V D T : Type 0} → Story E K V D T → Bool → ℕ → ℕ → Told E V D → Holding E K V → Holding E K V
with_told g after s t Nothing had = had
with_told {E = E} {K = K} g after s t (Anew part view) had = record { joined = Some (with_part g.room after 0 t part (empty_room E K), view); invited = None }
with_told g after s t (More part delta) had = record { joined = more_joined g after s t part delta had.joined; invited = None }
with_told g after s t (Invited ids) had = record { joined = None; invited = Some ids }
with_told g after s t Left had = record { joined = None; invited = None }

-- what a client must hold of a room at a token
abbrev pub StandingAgrees : {E K V D T : Type 0} → Tokens T → Story E K V D T → ℕ → T → ℕ → Standing → Holding E K V → Type 0
StandingAgrees ts g b i front Out had = (had.joined ≡ None) × (had.invited ≡ None)
StandingAgrees {E = E} {K = K} {V = V} ts g b i front In had =
    (room : ClientRoom E K) × (view : V) × (had.joined ≡ Some (room, view)) × RoomAgrees g.room g.events b (ts.event i) front room
    × (view ≡ g.rest.view i) × (had.invited ≡ None)
StandingAgrees ts g b i front (Asked ids) had = (had.joined ≡ None) × (had.invited ≡ Some ids)

-- what a client holds of a room agrees with the picture at its token; before its first token it holds nothing
abbrev pub HoldingAgrees : {E K V D T : Type 0} → Tokens T → Story E K V D T → ℕ → Option T → ℕ → Holding E K V → Type 0
HoldingAgrees ts g b None front had = (had.joined ≡ None) × (had.invited ≡ None)
HoldingAgrees ts g b (Some i) front had = StandingAgrees ts g b i front (standing g (ts.event i)) had

-- a reply's token comes after the one that was asked with
abbrev pub IsNext : {T : Type 0} → Tokens T → Option T → T → Type 0
IsNext ts None j = ⊤
IsNext ts (Some i) j = ts.before i j ≡ true

-- b is the position of the chain's first token
abbrev pub IsBase : {T : Type 0} → Tokens T → ℕ → Option T → T → Type 0
IsBase ts b None j = b ≡ ts.event j
IsBase ts b (Some i) j = b ≤ ts.event i

-- What a client holds of a room agrees after a sync reply, if it agreed at the token that it asked with: whatever the
-- user's memberships at the two tokens, whether the room is new, is in the reply or isn't, with the other parts of a
-- room by the section law.
abbrev pub FoldsRoom : Type 0 → Type 0 → Type 0 → Type 0 → Type 0 → Type 0
FoldsRoom E K V D T = (ts : Tokens T) → IsTokens ts → (g : Story E K V D T) → IsStory ts g
    → (ask : Sync) (heroes : K → Bool) (b : ℕ) (since : Option T) (j : T) (front front' : ℕ) (had : Holding E K V)
    → IsNext ts since j → IsBase ts b since j → front ≤ front' → ts.event j ≤ front' → HoldingAgrees ts g b since front had
    → HoldingAgrees ts g b (Some j) front' (with_told g ask.after (position ts since) (ts.event j) (told ts g ask heroes b since j) had)
