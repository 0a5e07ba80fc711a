-- Histories whose writers store from one block after the other: each position is stored once, and a writer's positions rise.
use Rattle.std.specs.Prelude.{◌≡◌, ℕ, ◌+◌, ◌-◌, ◌<◌, true, false, List, [], ◌∷◌, length}
use Rattle.std.specs.Option.{is_some}
use Rattle.mx_core.specs.declared.history.Stored.{Stored}
use Rattle.mx_core.specs.History.{item_of, is_stored, own, Begins}
use Rattle.mx_core.specs.Runs.{IsReached}
use Rattle.mx_core.specs.State.{State}

-- no position of a store is that of a later one
abbrev pub AreApart : {I : Type 0} → List (Stored I) → Type 0
AreApart [] = Unit {0}
AreApart (s ∷ h) = ((p : ℕ) → is_some (item_of s p) ≡ true → is_stored h p ≡ false) × AreApart h

-- each store begins above the one before it
abbrev pub Rise : {I : Type 0} → ℕ → List (Stored I) → Type 0
Rise above [] = Unit {0}
Rise above (s ∷ ss) = (above < s.first) × Rise (s.first + length s.items - 1) ss

-- the last position of a writer's stores
abbrev pub top : {I : Type 0} → ℕ → List (Stored I) → ℕ
top above [] = above
top above (s ∷ ss) = top (s.first + length s.items - 1) ss

pub record IsOrderly {I : Type 0} (h : List (Stored I)) : Type 0 where
  pub apart : AreApart h
  pub rise : (k : ℕ) → Rise 0 (own h k)

-- Whatever the run: what is stored is orderly, and so is each beginning of it.
abbrev pub RunsAreOrderly : Type 0 → Type 0
RunsAreOrderly I = (s : State I) → IsReached s → (h : List (Stored I)) → Begins h s.history → IsOrderly h
