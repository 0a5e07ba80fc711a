-- What a book stands for, over any history.
use Rattle.std.specs.Prelude.{◌≡◌, ℕ, List, [], ◌∷◌, ◌++◌}
use Rattle.mx_core.specs.declared.history.Stored.{Stored}
use Rattle.mx_core.specs.Covered.{covered, front_of}
use Rattle.mx_core.specs.Front.{IsFront}
use Rattle.mx_lanes.specs.Held.{Held, StandsFor, Keeps}
use Rattle.mx_lanes.specs.Parts.{Taken, IsUpTo}

-- a book stands for one history, so two stores by which it goes beyond a history are one
abbrev pub OneHistory : Type 0 → Type 0
OneHistory I = (h k : List (Stored I)) (b : Held I) → StandsFor h b → StandsFor k b → h ≡ k

-- a book with one store more stands for the history with that store at its end
abbrev pub OneStoreMore : Type 0 → Type 0
OneStoreMore I = (h : List (Stored I)) (x : Stored I) (old new : Held I) → StandsFor h old
    → new.history ≡ old.history ++ x ∷ [] → IsFront new.history new.front → StandsFor (h ++ x ∷ []) new

-- a book whose stores and front are as before stands for the same history
abbrev pub StandsStill : Type 0 → Type 0
StandsStill I = (h : List (Stored I)) (old new : Held I) → StandsFor h old → Keeps old new → StandsFor h new

-- the items up to the front of a history are those that it covers
abbrev pub UpToFront : Type 0 → Type 0
UpToFront I = (h : List (Stored I)) (front : ℕ) (taken : Taken I) → IsFront h front → IsUpTo h front taken → (taken.items ≡ covered h) × (front ≡ front_of h)
