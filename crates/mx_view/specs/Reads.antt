-- What is read of contents, of the events of a room.
use Rattle.std.specs.Prelude.{◌≡◌, ℕ, Bool, List, Option}
use Rattle.std.specs.List.{AllByRecursion}
use Rattle.mx_ids.specs.declared.sync_token.SyncToken.{SyncToken}
use Rattle.mx_event.specs.declared.event.Event.{Event}
use Rattle.mx_folding.specs.Stories.{Rest, Sync, told, IsNext}
use Rattle.mx_view.specs.Readings.{Contents}
use Rattle.mx_view.specs.Rooms.{Key, Sieve, story_by}
use Rattle.mx_view.specs.Tokens.{tokens}

-- both read of an event the same
pub record ReadAlike (c d : Contents) (e : Event) : Type 0 where
  pub membership : c.membership e ≡ d.membership e
  pub setting : c.setting e ≡ d.setting e
  pub names : c.names e ≡ d.names e

-- What a reply says of a room depends on contents by no more than what is read of the room's events.
abbrev pub SameRead : Type 0 → Type 0 → Type 0
SameRead V D = (c d : Contents) → c.red ≡ d.red → (es : List Event) → AllByRecursion (ReadAlike c d) es
    → (f : Sieve) (picked : Bool) (user : List ℕ) (rest : Rest V D SyncToken) (ask : Sync) (heroes : Key → Bool) (b : ℕ)
    (since : Option SyncToken) (j : SyncToken) → IsNext tokens since j
    → told tokens (story_by c f picked user es rest) ask heroes b since j ≡ told tokens (story_by d f picked user es rest) ask heroes b since j
