-- A chain over two connections: where the pages of its gaps are asked, and what a page of an older front brings back.
use Rattle.std.specs.Prelude.{◌≡◌, ℕ, List, [], ◌∷◌, ◌++◌, Some, None, codes}
use Rattle.mx_event.specs.Redaction.{redacted}
use Rattle.mx_event.specs.declared.event.Event.{Event}
use Rattle.mx_folding.specs.Chains.{Opening, Paged}
use Rattle.mx_folding.specs.Clients.{Held}
use Rattle.mx_folding.specs.Parts.{gap_at}
use Rattle.mx_fold.specs.Anywhere.{PagesFollow, PagesReach}
use Rattle.mx_fold.specs.Clients.{Exchange}
use Rattle.mx_fold_rows.specs.Chains.{client_after, synced as turn}
use Rattle.mx_fold_rows.specs.Events.{alice, message, private_room, redaction, taken_back}
use Rattle.mx_fold_rows.specs.Exchanged.{all, begun, chained, exchange, next_part, paged, room, server, synced}
use Rattle.mx_fold_rows.specs.Heard.{token}
use Rattle.mx_fold_rows.specs.Redacted.{copies}

-- a sync at the front 8, the next one at 10, and a page of the first one's gap at this front
abbrev pub across : ℕ → List (Exchange ℕ ℕ)
across front = begun ∷ synced 0 all (Some (token 8 8)) (token 10 8) next_part ∷ exchange 0 front (paged room 7 all).said ∷ []

-- a client takes them from whatever connections, and at whatever front the page was answered
abbrev pub GoesAcross : Type 0
GoesAcross = (front : ℕ) → chained 0 (across front) ≡ Some (token 10 8, (0, 4) ∷ (5, 5) ∷ (6, 6) ∷ (7, 7) ∷ (8, 8) ∷ (8, 9) ∷ (10, 10) ∷ [])

-- at the front 10 the page reaches its token, and at 9 it doesn't
abbrev pub ReachesIt : Type 0
ReachesIt = PagesReach server 0 all None (across 10)

abbrev pub FallsShort : Type 0
FallsShort = PagesReach server 0 all None (across 9) → ⊥

-- the second sync was on connection 1: the page is to be asked there, and not on connection 0, where the gap was left
abbrev pub FollowsSync : Type 0
FollowsSync = PagesFollow server 0 all None None (0 ∷ 1 ∷ 1 ∷ []) (across 10)

abbrev pub GoesBack : Type 0
GoesBack = PagesFollow server 0 all None None (0 ∷ 1 ∷ 0 ∷ []) (across 10) → ⊥

-- the gap that alice's sync at 8 leaves, after another at 9
abbrev pub left_open : Opening Event
left_open = record {
  before = [];
  gap = gap_at 0 7 8;
  behind = Held (message 8 alice) ∷ Held (redaction 9 (codes "$7:example.org")) ∷ [];
}

-- what her client holds after a page of it at this front
abbrev pub copies_at : ℕ → List Event
copies_at front = copies (((client_after alice taken_back (turn 1 8 ∷ turn 1 9 ∷ Paged 10 front (λ x. Some left_open) ∷ [])).rooms tt).joined)

-- a page at the front of its token shows 7 redacted, and one at the front 8 brings it back as it was
abbrev pub StaysRedacted : Type 0
StaysRedacted = copies_at 9 ≡ private_room ++ redacted (message 7 alice) ∷ message 8 alice ∷ redaction 9 (codes "$7:example.org") ∷ []

abbrev pub BroughtBack : Type 0
BroughtBack = copies_at 8 ≡ taken_back
