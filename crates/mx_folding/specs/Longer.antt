-- A reply and a page are the same over a list that goes on with later events.
use Rattle.std.specs.Prelude.{◌≡◌, ℕ, ◌<◌, ◌≤◌, Bool, List, ◌++◌}
use Rattle.std.specs.List.{AllByRecursion}
use Rattle.mx_window.specs.Windows.{between}
use Rattle.mx_folding.specs.Sections.{window}
use Rattle.mx_folding.specs.Rooms.{Room}
use Rattle.mx_folding.specs.Parts.{Gap, part_of, page_of}
use Rattle.mx_folding.specs.Visible.{Viewer, is_visible}

-- the same room, as it is judged over a longer list
abbrev pub judged_by : {E K : Type 0} → Room E K → (ℕ → E → Bool) → (ℕ → ℕ → Bool) → Room E K
judged_by r sends stayed = record r { sends = sends; stayed = stayed }

-- A reply's part for (s, t], judged at a front, is the same over a list that goes on with events after the front, and that
-- judges those up to it alike.
abbrev pub SamePart : Type 0 → Type 0 → Type 0
SamePart E K = (r : Room E K) (sends : ℕ → E → Bool) (stayed : ℕ → ℕ → Bool) (es later : List E)
    (after : Bool) (limit front s t : ℕ) (pick : List E → E → Bool)
    → s ≤ t → t ≤ front → AllByRecursion (λ e. front < r.at e) later → AllByRecursion (λ e. sends front e ≡ r.sends front e) (between r.at 0 front es)
    → part_of (judged_by r sends stayed) (es ++ later) front (window after limit s t) pick ≡ part_of r es front (window after limit s t) pick

-- So is a page of a gap at a front e.
abbrev pub SamePage : Type 0 → Type 0 → Type 0
SamePage E K = (r : Room E K) (sends : ℕ → E → Bool) (stayed : ℕ → ℕ → Bool) (es later : List E) (limit e : ℕ) (gap : Gap)
    → gap.front ≤ e → gap.lower ≤ gap.upper → gap.upper ≤ e → AllByRecursion (λ v. e < r.at v) later
    → AllByRecursion (λ v. sends e v ≡ r.sends e v) (between r.at 0 e es)
    → page_of (judged_by r sends stayed) (es ++ later) limit e gap ≡ page_of r es limit e gap

-- What is visible at a front is the same over a list that goes on with events after it.
abbrev pub SameVisible : Type 0 → Type 0
SameVisible E = (v : Viewer E) (es later : List E) (t : ℕ) → AllByRecursion (λ e. t < v.at e) later
    → AllByRecursion (λ e. is_visible v (es ++ later) t e ≡ is_visible v es t e) (between v.at 0 t es)
