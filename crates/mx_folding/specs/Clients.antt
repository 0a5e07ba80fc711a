-- What a client holds of one room, and what it does with a reply's part and with a page.
use Rattle.std.specs.Prelude.{ℕ, Bool, cond, List, [], ◌∷◌, ◌++◌, map, Option, None, option_map}
use Rattle.std.specs.Option.{option_or}
use Rattle.mx_window.specs.Lasts.{last_of}
use Rattle.mx_folding.specs.Rooms.{Room, has}
use Rattle.mx_folding.specs.Redactions.{redact_by}
use Rattle.mx_folding.specs.Parts.{Part, Page, Gap, gap_at}

-- an entry of a timeline: a copy of an event, or an open gap
pub data Entry (C : Type 0) : Type 0 where
  Held : C → Entry C
  Open : Gap → Entry C

-- the copies in a timeline
abbrev pub held : {C : Type 0} → List (Entry C) → List C
held [] = []
held (Held c ∷ es) = c ∷ held es
held (Open gap ∷ es) = held es

pub record ClientRoom (E K : Type 0) : Type 0 where
  pub state : K → Option E
  pub timeline : List (Entry E)

abbrev pub empty_room : (E K : Type 0) → ClientRoom E K
empty_room E K = record { state = λ k. None; timeline = [] }

-- each event is put under its key
abbrev pub put_all : {E K : Type 0} → Room E K → List E → (K → Option E) → K → Option E
put_all r es state k = option_or (last_of (has r k) es) (state k)

-- each event is put under its key, where none is held there
abbrev pub put_new : {E K : Type 0} → Room E K → List E → (K → Option E) → K → Option E
put_new r es state k = option_or (state k) (last_of (has r k) es)

abbrev pub gap_if : {C : Type 0} → Bool → Gap → List (Entry C)
gap_if open_still gap = cond open_still (Open gap ∷ []) []

abbrev pub redact_entry : {E K : Type 0} → Room E K → List E → Entry E → Entry E
redact_entry r by (Held c) = Held (redact_by r by c)
redact_entry r by (Open gap) = Open gap

-- all copies of a room, after the redactions among new events
abbrev pub redacted_room : {E K : Type 0} → Room E K → List E → ClientRoom E K → ClientRoom E K
redacted_room r by room = record {
  state = λ k. option_map (redact_by r by) (room.state k);
  timeline = map (redact_entry r by) room.timeline;
}

-- after a reply's part for (s, t]: the state part is put, then the section, unless the state part is that after it
abbrev pub with_part : {E K : Type 0} → Room E K → Bool → ℕ → ℕ → Part E → ClientRoom E K → ClientRoom E K
with_part r after s t part room = redacted_room r part.sent (record {
  state = put_all r (cond after [] part.sent) (put_all r part.state room.state);
  timeline = room.timeline ++ gap_if part.limited (gap_at s part.cut t) ++ map Held part.sent;
})

-- after a page for a gap that stands between two halves of the timeline
abbrev pub with_page : {E K : Type 0} → Room E K → Gap → List (Entry E) → List (Entry E) → Page E → (K → Option E) → ClientRoom E K
with_page r gap before behind page state = redacted_room r page.sent (record {
  state = put_new r page.members state;
  timeline = before ++ gap_if page.more (gap_at gap.lower page.end gap.front) ++ map Held page.sent ++ behind;
})
