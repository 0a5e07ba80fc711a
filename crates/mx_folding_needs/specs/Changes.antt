-- The folding law of one room, with one definition changed, with a weaker agreement, or at any b.
use Rattle.std.specs.Prelude.{◌≡◌, ℕ, ◌≤◌, Bool, true, false, not, ◌&&◌, ◌||◌, List, [], ◌∷◌, ◌++◌, map, Option, Some, nat_lt, nat_le, ⊤}
use Rattle.std.specs.List.{AllByRecursion}
use Rattle.mx_folding.specs.Rooms.{Room, IsRoom, StaysSent, key_is}
use Rattle.mx_folding.specs.Sections.{section, window}
use Rattle.mx_folding.specs.Redactions.{is_named, shown}
use Rattle.mx_folding.specs.Parts.{is_sender, state_part, picks_new, Part, part_of, Page, Gap, page_of}
use Rattle.mx_folding.specs.Clients.{Entry, Held, Open, ClientRoom, empty_room, held, put_all, redacted_room, with_part, with_page}
use Rattle.mx_folding.specs.Agreement.{pictured, filled, StateAgrees, is_owed, IsDue, RoomAgrees}

-- a room agrees at b, a token and a front
abbrev pub Agreement : Type 0 → Type 0 → Type 1
Agreement E K = Room E K → List E → ℕ → ℕ → ℕ → ClientRoom E K → Type 0

-- a lazy member event is omitted: with redundant members or not, at b and the token that was asked with
abbrev pub Omission : Type 0 → Type 0 → Type 0
Omission E K = Room E K → Bool → ℕ → ℕ → E → Bool

-- `picks`, by an omission
abbrev pub picks_by : {E K : Type 0} → Omission E K → Room E K → Bool → ℕ → ℕ → ℕ → (K → Bool) → List E → E → Bool
picks_by omits r redundant b since from heroes sent e =
    nat_lt from (r.at e) || (r.lazy && (key_is r.member (r.key e)
    && ((key_is (is_sender r sent) (r.key e) || key_is heroes (r.key e)) && not (omits r redundant b since e))))

-- `FoldsReply`, by an agreement and an omission
abbrev pub FoldsReplyBy : (E K : Type 0) → Agreement E K → Omission E K → Type 0
FoldsReplyBy E K Agree omits = (r : Room E K) (es : List E) → IsRoom r es → (after : Bool)
    (limit from s t front front' b : ℕ) (redundant : Bool) (heroes : K → Bool) (room : ClientRoom E K)
    → StaysSent r es s → from ≤ s → s ≤ t → front ≤ front' → t ≤ front' → Agree r es b s front room
    → Agree r es b t front' (with_part r after s t (part_of r es t (window after limit s t) (picks_by omits r redundant b s from heroes)) room)

-- `with_page`, as a client may do it
abbrev pub Taking : Type 0 → Type 0 → Type 0
Taking E K = Room E K → Gap → List (Entry E) → List (Entry E) → Page E → (K → Option E) → ClientRoom E K

-- where the state is that a page's lazy members are of, by the gap's upper end and the front that it was cut at
abbrev pub at_cut : ℕ → ℕ → ℕ
at_cut upper cut = cut

abbrev pub at_upper : ℕ → ℕ → ℕ
at_upper upper cut = upper

-- `FoldsPage`, by an agreement, by what a client does with a page, and by where its lazy members are of
abbrev pub FoldsPageBy : (E K : Type 0) → Agreement E K → Taking E K → (ℕ → ℕ → ℕ) → Type 0
FoldsPageBy E K Agree take members = (r : Room E K) (es : List E) → IsRoom r es
    → (limit b t front front' e : ℕ) (gap : Gap) (before behind : List (Entry E)) (state : K → Option E)
    → StaysSent r es t → t ≤ e → e ≤ front' → front ≤ front'
    → Agree r es b t front (record { state = state; timeline = before ++ Open gap ∷ behind })
    → Agree r es b t front' (take r gap before behind (page_of r es limit e (record gap { front = members gap.upper gap.front })) state)

-- `FoldsNew`, at any b
abbrev pub FoldsNewAnywhere : Type 0 → Type 0 → Type 0
FoldsNewAnywhere E K = (r : Room E K) (es : List E) → IsRoom r es → (after : Bool) (limit t front b : ℕ) (heroes : K → Bool)
    → t ≤ front → RoomAgrees r es b t front (with_part r after 0 t (part_of r es t (window after limit 0 t) (picks_new r heroes)) (empty_room E K))

-- a new room's part whose section isn't cut at the break
abbrev pub uncut : {E K : Type 0} → Room E K → List E → ℕ → ℕ → (K → Bool) → Part E
uncut r es limit t heroes =
    let part = part_of r es t (window true limit 0 t) (picks_new r heroes) in
    record part { state = map (shown r es t) (state_part r es (picks_new r heroes (section r es t (window true limit 0 t))) part.cut) }

abbrev pub FoldsNewUncut : Type 0 → Type 0 → Type 0
FoldsNewUncut E K = (r : Room E K) (es : List E) → IsRoom r es → (limit t front b : ℕ) (heroes : K → Bool)
    → t ≤ front → (r.stayed b t ≡ true → t ≤ b) → RoomAgrees r es b t front (with_part r false 0 t (uncut r es limit t heroes) (empty_room E K))

-- page members are put over held ones
abbrev pub put_over : {E K : Type 0} → Taking E K
put_over r gap before behind page state =
    redacted_room r page.sent (record { state = put_all r page.members state; timeline = (with_page r gap before behind page state).timeline })

-- an omission that doesn't ask whether the user was joined throughout, and one that doesn't ask whether it came after b
abbrev pub omits_unjoined : {E K : Type 0} → Omission E K
omits_unjoined r redundant b since e = not redundant && (nat_le (r.at e) since && nat_lt b (r.at e))

abbrev pub omits_before : {E K : Type 0} → Omission E K
omits_before r redundant b since e = not redundant && (nat_le (r.at e) since && r.stayed b since)

-- what is asked of each open gap of a timeline
abbrev pub EachGap : {C : Type 0} → (ℕ → ℕ → Type 0) → List (Entry C) → Type 0
EachGap P [] = ⊤
EachGap P (Held c ∷ es) = EachGap P es
EachGap P (Open gap ∷ es) = P gap.upper gap.front × EachGap P es

-- `RoomAgrees`, with this of each gap's upper end and front in place of `order`
pub record Loosely {E K : Type 0} (P : ℕ → ℕ → ℕ → Type 0) (r : Room E K) (es : List E) (b t front : ℕ) (room : ClientRoom E K) : Type 0 where
  pub whole : filled r.at (pictured r es t) room.timeline ≡ pictured r es t 0 t
  pub gaps : EachGap (P t) room.timeline
  pub state : StateAgrees r es t (is_owed r b t room.timeline) room.state
  pub held_copies : AllByRecursion (IsDue r es front (is_named r (held room.timeline))) (held room.timeline)
  pub state_copies : (k : K) (c : E) → ◌≡◌ {A = Option E} (room.state k) (Some c) → IsDue r es front (is_named r (held room.timeline)) c

abbrev pub InPast : {E K : Type 0} → Agreement E K
InPast = Loosely (λ t upper front. upper ≤ t)

abbrev pub CutInPast : {E K : Type 0} → Agreement E K
CutInPast = Loosely (λ t upper front. front ≤ t)
