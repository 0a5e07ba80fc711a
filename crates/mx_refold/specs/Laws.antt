-- The folding law of one room whose copies are redacted by what its timeline holds.
use Rattle.std.specs.Prelude.{◌≡◌, ℕ, ◌≤◌, Bool, List, ◌∷◌, ◌++◌, map, Option}
use Rattle.std.specs.Option.{option_map}
use Rattle.mx_folding.specs.Rooms.{Room, IsRoom, StaysSent}
use Rattle.mx_folding.specs.Redactions.{redact_by}
use Rattle.mx_folding.specs.Parts.{Part, Page, Gap, page_of}
use Rattle.mx_folding.specs.Clients.{Entry, Open, ClientRoom, held, redact_entry, with_part, with_page}
use Rattle.mx_folding.specs.Agreement.{RoomAgrees}
use Rattle.mx_refold.specs.Redacted.{room_redacted}

-- A room that agrees with the picture at t still does after a backward page of a gap in its timeline and the redactions that
-- the timeline then holds. The page may be judged at any front e of at least that where the gap was cut, also before t; the
-- user was joined there, and the gap ends at or before it.
abbrev pub FoldsAnyPage : Type 0 → Type 0 → Type 0
FoldsAnyPage E K = (r : Room E K) (es : List E) → IsRoom r es → (limit b t front front' e : ℕ) (gap : Gap) (before behind : List (Entry E)) (state : K → Option E)
    → StaysSent r es gap.front → gap.upper ≤ gap.front → gap.front ≤ e → e ≤ front' → t ≤ front' → front ≤ front'
    → RoomAgrees r es b t front (record { state = state; timeline = before ++ Open gap ∷ behind })
    → RoomAgrees r es b t front' (room_redacted r (with_page r gap before behind (page_of r es limit e gap) state))

-- Redactions of the timeline that are applied before a reply's part change nothing of the room after it and them.
abbrev pub RedactsPart : Type 0 → Type 0 → Type 0
RedactsPart E K = (r : Room E K) (es : List E) → IsRoom r es → (after : Bool) (s t : ℕ) (part : Part E) (room : ClientRoom E K)
    → room_redacted r (with_part r after s t part (room_redacted r room)) ≡ room_redacted r (with_part r after s t part room)

-- So with a page of a gap between two halves of the timeline.
abbrev pub RedactsPage : Type 0 → Type 0 → Type 0
RedactsPage E K = (r : Room E K) (es : List E) → IsRoom r es → (gap : Gap) (before behind : List (Entry E)) (page : Page E) (state : K → Option E) (by : List E)
    → by ≡ held (before ++ Open gap ∷ behind)
    → room_redacted r (with_page r gap (map (redact_entry r by) before) (map (redact_entry r by) behind) page (λ k. option_map (redact_by r by) (state k)))
    ≡ room_redacted r (with_page r gap before behind page state)
