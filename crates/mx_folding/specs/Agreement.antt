-- When a client's room agrees with the picture of the room at its token: what one unlimited initial sync there shows.
use Rattle.std.specs.Prelude.{◌≡◌, ℕ, ◌<◌, ◌≤◌, ◌⊎◌, Bool, true, false, not, ◌&&◌, ◌||◌, List, [], ◌∷◌, ◌++◌, map, Option, Some, option_map, nat_lt}
use Rattle.std.specs.List.{list_any, AllByRecursion, Contains}
use Rattle.mx_folding.specs.Rooms.{Room, state_at, mine}
use Rattle.mx_folding.specs.Sections.{sendable}
use Rattle.mx_folding.specs.Redactions.{is_named, is_redacted}
use Rattle.mx_folding.specs.Parts.{is_sender}
use Rattle.mx_folding.specs.Clients.{Entry, Held, Open, ClientRoom, held}

-- the positions of the picture's timeline at t, in a stretch of it
abbrev pub pictured : {E K : Type 0} → Room E K → List E → ℕ → ℕ → ℕ → List ℕ
pictured r es t low high = map r.at (sendable r es t low high)

-- the positions of a timeline, with each open gap filled by the picture's of its stretch
abbrev pub filled : {C : Type 0} → (C → ℕ) → (ℕ → ℕ → List ℕ) → List (Entry C) → List ℕ
filled at picture [] = []
filled at picture (Held c ∷ es) = at c ∷ filled at picture es
filled at picture (Open gap ∷ es) = picture gap.lower gap.upper ++ filled at picture es

-- copies and gaps stand in order, above low and up to high, no two gaps overlap, and each was cut at a front up to t
abbrev pub Rises : {C : Type 0} → (C → ℕ) → ℕ → ℕ → ℕ → List (Entry C) → Type 0
Rises at t low high [] = low ≤ high
Rises at t low high (Held c ∷ es) = (low < at c) × Rises at t (at c) high es
Rises at t low high (Open gap ∷ es) = (low ≤ gap.lower) × (gap.lower ≤ gap.upper) × (gap.front ≤ t) × Rises at t gap.upper high es

-- with each open gap filled, the timeline is the picture's
pub record TimelineAgrees {E K : Type 0} (r : Room E K) (es : List E) (t : ℕ) (timeline : List (Entry E)) : Type 0 where
  pub whole : filled r.at (pictured r es t) timeline ≡ pictured r es t 0 t
  pub order : Rises r.at t 0 t timeline

-- what is held under a key is the state's there, and what is owed is held
pub record StateAgrees {E K : Type 0} (r : Room E K) (es : List E) (t : ℕ) (owed : K → E → Bool) (state : K → Option E) : Type 0 where
  pub right : (k : K) (c : E) → ◌≡◌ {A = Option E} (state k) (Some c) → ◌≡◌ {A = Option ℕ} (option_map r.at (state_at r es t k)) (Some (r.at c))
  pub enough : (k : K) (v : E) → ◌≡◌ {A = Option E} (state_at r es t k) (Some v) → owed k v ≡ true → (c : E) × (◌≡◌ {A = Option E} (state k) (Some c))

abbrev pub is_gap_before : {C : Type 0} → ℕ → Entry C → Bool
is_gap_before p (Held c) = false
is_gap_before p (Open gap) = nat_lt gap.front p

-- which events of the state a client must hold: all, but with lazy members of the member events only the user's own,
-- those of senders in the timeline, those after b where the user stayed joined from b to t, and those after the
-- front of an open gap
abbrev pub is_owed : {E K : Type 0} → Room E K → ℕ → ℕ → List (Entry E) → K → E → Bool
is_owed r b t timeline k v =
    not r.lazy || (not (r.member k) || (mine r k || (is_sender r (held timeline) k
    || ((r.stayed b t && nat_lt b (r.at v)) || list_any (is_gap_before (r.at v)) timeline))))

-- a copy of an event of the list, as it was or redacted
pub record IsCopy {E K : Type 0} (r : Room E K) (es : List E) (c : E) : Type 0 where
  pub event : E
  pub listed : Contains es event
  pub copied : (c ≡ event) ⊎ (c ≡ r.red event)

-- a copy is redacted where a redaction of the timeline names it, and is not where none up to the front does
pub record IsDue {E K : Type 0} (r : Room E K) (es : List E) (front : ℕ) (named : ℕ → Bool) (c : E) : Type 0 where
  pub copy : IsCopy r es c
  pub redacted : named (r.at copy.event) ≡ true → c ≡ r.red copy.event
  pub plain : is_redacted r es front copy.event ≡ false → c ≡ copy.event

-- the room agrees with the picture at t; b is the token's component b, front the greatest front of replies and pages so far
pub record RoomAgrees {E K : Type 0} (r : Room E K) (es : List E) (b t front : ℕ) (room : ClientRoom E K) : Type 0 where
  pub timeline : TimelineAgrees r es t room.timeline
  pub state : StateAgrees r es t (is_owed r b t room.timeline) room.state
  pub held_copies : AllByRecursion (IsDue r es front (is_named r (held room.timeline))) (held room.timeline)
  pub state_copies : (k : K) (c : E) → ◌≡◌ {A = Option E} (room.state k) (Some c) → IsDue r es front (is_named r (held room.timeline)) c
