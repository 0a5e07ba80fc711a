-- The folding law of one room: what a client holds after it has put a reply's part or a page into its room.
use Rattle.std.specs.Prelude.{◌↔◌, ◌≡◌, ℕ, ◌≤◌, Bool, true, false, not, ◌&&◌, List, [], ◌∷◌, ◌++◌, map, Option, nat_lt, nat_le}
use Rattle.std.specs.List.{filter, list_any, AllByRecursion}
use Rattle.mx_folding.specs.Sections.{sendable, section, cut, is_limited, window}
use Rattle.std.specs.Option.{option_map}
use Rattle.mx_folding.specs.Rooms.{Room, IsRoom, StaysSent, state_at}
use Rattle.mx_folding.specs.Parts.{Part, has_some, Gap, part_of, page_of, picks, picks_new}
use Rattle.mx_folding.specs.Clients.{Entry, Held, Open, ClientRoom, empty_room, held, with_part, with_page}
use Rattle.mx_folding.specs.Agreement.{pictured, TimelineAgrees, StateAgrees, is_owed, RoomAgrees}

-- A room that agrees with the picture at s agrees with that at t, after the part that a reply sends for the window
-- (s, t]: with the state before or after the timeline, with any limit, with full_state (`from` is 0) or without
-- (`from` is s), with or without lazy members, whatever the heroes.
abbrev pub FoldsReply : Type 0 → Type 0 → Type 0
FoldsReply E K = (r : Room E K) (es : List E) → IsRoom r es
    → (after : Bool) (limit from s t front front' b : ℕ) (redundant : Bool) (heroes : K → Bool) (room : ClientRoom E K)
    → StaysSent r es s → from ≤ s → s ≤ t → front ≤ front' → t ≤ front' → RoomAgrees r es b s front room
    → RoomAgrees r es b t front' (with_part r after s t (part_of r es t (window after limit s t) (picks r redundant b s from heroes)) room)

-- An empty room agrees with the picture at t, after the part that a reply sends of a new room: where the user was
-- joined from b to t, t is b.
abbrev pub FoldsNew : Type 0 → Type 0 → Type 0
FoldsNew E K = (r : Room E K) (es : List E) → IsRoom r es → (after : Bool) (limit t front b : ℕ) (heroes : K → Bool)
    → t ≤ front → (r.stayed b t ≡ true → t ≤ b)
    → RoomAgrees r es b t front (with_part r after 0 t (part_of r es t (window after limit 0 t) (picks_new r heroes)) (empty_room E K))

-- A room that agrees with the picture at t still does after a backward page, judged at a front e of at least t, of a
-- gap in its timeline. The front of its copies is then at least e.
abbrev pub FoldsPage : Type 0 → Type 0 → Type 0
FoldsPage E K = (r : Room E K) (es : List E) → IsRoom r es → (limit b t front front' e : ℕ) (gap : Gap) (before behind : List (Entry E)) (state : K → Option E)
    → StaysSent r es t → t ≤ e → e ≤ front' → front ≤ front'
    → RoomAgrees r es b t front (record { state = state; timeline = before ++ Open gap ∷ behind })
    → RoomAgrees r es b t front' (with_page r gap before behind (page_of r es limit e gap) state)

-- A part that says nothing leaves the room as it is.
abbrev pub FoldsNothing : Type 0 → Type 0 → Type 0
FoldsNothing E K = (r : Room E K) (after : Bool) (s t : ℕ) (part : Part E) (room : ClientRoom E K) → has_some part ≡ false
    → with_part r after s t part room ≡ room

abbrev pub is_in_gap : {C : Type 0} → ℕ → Entry C → Bool
is_in_gap p (Held c) = false
is_in_gap p (Open gap) = nat_lt gap.lower p && nat_le p gap.upper

-- A timeline that agrees holds the picture's events in order, less those in the stretches of its open gaps.
abbrev pub OpenTimeline : Type 0 → Type 0 → Type 0
OpenTimeline E K = (r : Room E K) (es : List E) (t : ℕ) (timeline : List (Entry E)) → TimelineAgrees r es t timeline
    → map r.at (held timeline) ≡ filter (λ p. not (list_any (is_in_gap p) timeline)) (pictured r es t 0 t)

-- A state that agrees has the picture's events under the picture's keys: all of them without lazy members, and all but
-- the member events with them.
abbrev pub WholeState : Type 0 → Type 0 → Type 0
WholeState E K = (r : Room E K) (es : List E) (b t : ℕ) (timeline : List (Entry E)) (state : K → Option E) → StateAgrees r es t (is_owed r b t timeline) state
    → (k : K) → (r.lazy && r.member k) ≡ false → ◌≡◌ {A = Option ℕ} (option_map r.at (state k)) (option_map r.at (state_at r es t k))

-- With no open gap, a timeline that agrees holds the picture's events in order.
abbrev pub ClosedTimeline : Type 0 → Type 0 → Type 0
ClosedTimeline E K = (r : Room E K) (es : List E) (t : ℕ) (cs : List E) → TimelineAgrees r es t (map Held cs) → map r.at cs ≡ pictured r es t 0 t

-- A section is what may be sent of the window above its cut; the reply is limited exactly where something may be sent of
-- the window up to the cut.
abbrev pub SectionIsWindow : Type 0 → Type 0 → Type 0
SectionIsWindow E K = (r : Room E K) (es : List E) → IsRoom r es → (after : Bool) (limit front low high q : ℕ) → low ≤ high
    → q ≡ cut r es front (window after limit low high)
    → (section r es front (window after limit low high) ≡ sendable r es front q high) × (low ≤ q) × (q ≤ high)
    × ((is_limited r es front (window after limit low high) ≡ false) ↔ (sendable r es front low q ≡ []))

-- Each event of a section is visible to the user at the front, and the timeline filter passes it.
abbrev pub SentIsVisible : Type 0 → Type 0 → Type 0
SentIsVisible E K = (r : Room E K) (es : List E) (after : Bool) (limit front low high : ℕ)
    → AllByRecursion (λ e. r.sends front e ≡ true) (section r es front (window after limit low high))
