-- A book as contracts see it: its history, with the spare space of each lane beside it.
use Rattle.std.specs.Prelude.{◌≡◌, ◌≢◌, ℕ, ◌≤◌, List, [], length, slice_index, replicate}
use Rattle.mx_core.specs.declared.history.Stored.{Stored}
use Rattle.mx_core.specs.Front.{IsFront}

pub record Held (I : Type 0) : Type 0 where
  -- the stores, in the order in which they were made
  pub history : List (Stored I)
  -- how many items each lane has space for
  pub spare : List ℕ
  pub front : ℕ

abbrev pub empty : {I : Type 0} → ℕ → Held I
empty writers = record { history = []; spare = replicate writers 0; front = 0 }

-- the spare space of a lane
abbrev pub spare_of : {I : Type 0} → Held I → ℕ → ℕ
spare_of b lane = slice_index b.spare lane

-- a book stands for a history: it has that history's stores, and its front
pub record StandsFor {I : Type 0} (h : List (Stored I)) (b : Held I) : Type 0 where
  pub history : b.history ≡ h
  pub stores : length b.history ≡ length h
  pub front : IsFront h b.front

-- the stores and the number of lanes are as before, and no lane's spare fell
pub record Keeps {I : Type 0} (old new : Held I) : Type 0 where
  pub history : new.history ≡ old.history
  pub front : new.front ≡ old.front
  pub lanes : length new.spare ≡ length old.spare
  pub spare : (lane : ℕ) → spare_of old lane ≤ spare_of new lane

-- only one lane's spare changed
pub record OthersKeep {I : Type 0} (lane : ℕ) (old new : Held I) : Type 0 where
  pub lanes : length new.spare ≡ length old.spare
  pub others : (other : ℕ) → other ≢ lane → spare_of new other ≡ spare_of old other
