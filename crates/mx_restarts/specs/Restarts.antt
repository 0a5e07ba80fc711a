-- The headline over restarts: whichever runs of a server answered a client, what it holds is what its picture in the last run has.
use Rattle.std.specs.Prelude.{◌≡◌, ℕ, true, List, [], ◌∷◌, ◌++◌, None, IfSome, ⊤}
use Rattle.std.specs.Option.{option_map}
use Rattle.mx_filter.specs.Sieves as sieves
use Rattle.mx_filter.specs.declared.parts.Selection.{Selection}
use Rattle.mx_fold.specs.Anywhere.{PagesReach}
use Rattle.mx_fold.specs.Clients.{Agrees, Exchange, chain}
use Rattle.mx_fold.specs.Lists.{AreLawful, Grows, Histories, lists_of}
use Rattle.mx_refold.specs.Clients.{redacted_client}
use Rattle.mx_rest.specs.declared.room_view.RoomDelta.{RoomDelta}
use Rattle.mx_rest.specs.declared.room_view.RoomView.{RoomView}
use Rattle.mx_sync.specs.Replies.{server_for}
use Rattle.mx_ask.specs.declared.ask.Request.{Request}
use Rattle.mx_chains.specs.Chains.{AreAnswers}
use Rattle.mx_chains.specs.Heard.{exchanges_of}
use Rattle.mx_chains.specs.OfEngine.Answered.{Answered}
use Rattle.mx_chains.specs.OfEngine.Asked.{Site}
use Rattle.mx_restarts.specs.Kept.{IsInPlace, IsKeptIn}

-- ---- runs

-- what a run was asked and what it answered, and the stores that its passes have seen in the end
pub record Run : Type 0 where
  pub site : Site
  pub lists : Histories
  pub requests : List Request
  pub answers : List Answered

-- each answer is *Answer*'s on the stores that its mark counts
pub record IsRun (run : Run) : Type 0 where
  pub answers : AreAnswers run.site run.lists run.requests run.answers
  pub lawful : AreLawful run.lists

-- a run whose stores a later start has
pub record IsEarlier (begun : Histories) (run : Run) : Type 0 where
  pub is : IsRun run
  pub kept : IsKeptIn run.lists begun

abbrev pub AreEarlier : Histories → List Run → Type 0
AreEarlier begun [] = ⊤
AreEarlier begun (run ∷ runs) = IsEarlier begun run × AreEarlier begun runs

-- the run from there
pub record IsLast (begun : Histories) (run : Run) : Type 0 where
  pub is : IsRun run
  pub in_place : IsInPlace begun
  pub grows : Grows begun run.lists

-- ---- the answers to a device

module _ (user : List ℕ) (device : ℕ) where
  abbrev pub exchanges_in : Run → List (Exchange RoomView RoomDelta)
  exchanges_in run = exchanges_of run.site user device run.lists run.requests run.answers

  -- those of the earlier runs in their order, then those of the last
  abbrev pub exchanges_over : List Run → Run → List (Exchange RoomView RoomDelta)
  exchanges_over [] last = exchanges_in last
  exchanges_over (run ∷ runs) last = exchanges_in run ++ exchanges_over runs last

-- ---- the laws

-- Each device's chain with each filter that picks state by type and room, once its copies are redacted by all redactions that its
-- timelines hold, agrees with the picture at its token, whichever runs answered its syncs and pages.
abbrev pub RestartsRedact : Type 0
RestartsRedact = (runs : List Run) (begun : Histories) (last : Run) → AreEarlier begun runs → IsLast begun last
    → (user : List ℕ) (device : ℕ) (f : Selection) → sieves.folds f ≡ true
    → IfSome (option_map (redacted_client (server_for user) user f) (chain (server_for user) device f None (exchanges_over user device runs last)))
    (Agrees (server_for user) user f (lists_of last.lists))

-- And so without these redactions, if its pages were asked where the lists reach its token.
abbrev pub RestartsAgree : Type 0
RestartsAgree = (runs : List Run) (begun : Histories) (last : Run) → AreEarlier begun runs → IsLast begun last
    → (user : List ℕ) (device : ℕ) (f : Selection) → sieves.folds f ≡ true
    → PagesReach (server_for user) device f None (exchanges_over user device runs last)
    → IfSome (chain (server_for user) device f None (exchanges_over user device runs last)) (Agrees (server_for user) user f (lists_of last.lists))
