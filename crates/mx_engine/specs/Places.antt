-- Where the writes of marks stored: the first positions of their stores, in each stream.
use Rattle.std.specs.Prelude.{◌≡◌, ℕ, List, [], ◌∷◌, ◌++◌, Option, Some, None, Ok, Err, length}
use Rattle.mx_core.specs.declared.history.Stored.{Stored}
use Rattle.mx_fold.specs.Lists.{Histories}
use Rattle.mx_acts.specs.Acts.{Act, Files, Marks, Notes, Puts, Reads, Sends}
use Rattle.mx_engine.specs.Written.{Made}
use Rattle.mx_engine.specs.declared.answered.Mark.{Mark}

-- positions of each stream
pub record Places : Type 0 where
  pub events : List ℕ
  pub receipts : List ℕ
  pub accounts : List ℕ

abbrev pub nowhere : Places
nowhere = record { events = []; receipts = []; accounts = [] }

abbrev pub followed_by : Places → Places → Places
followed_by p q = record { events = p.events ++ q.events; receipts = p.receipts ++ q.receipts; accounts = p.accounts ++ q.accounts }

-- the first positions of stores
abbrev pub firsts : {I : Type 0} → List (Stored I) → List ℕ
firsts [] = []
firsts (s ∷ h) = s.first ∷ firsts h

abbrev pub firsts_of : Histories → Places
firsts_of h = record { events = firsts h.events; receipts = firsts h.receipts; accounts = firsts h.accounts }

-- the position of a store, if one was made
abbrev pub one_at : Option ℕ → List ℕ
one_at None = []
one_at (Some at) = at ∷ []

-- of `m.fully_read` and then receipts: a mark that tells `m.fully_read` by `marker` has its own write of the receipts
abbrev pub places_noted : Option ℕ → Option (ℕ × ℕ) → Places
places_noted own None = record nowhere { accounts = one_at own }
places_noted own (Some marker) = record nowhere { receipts = one_at own; accounts = marker.1 ∷ [] }

-- where an answer of this mark stored: its own write, and `m.fully_read` beside it
abbrev pub places_for : Act → Mark → Places
places_for (Reads reads) m = nowhere
places_for (Sends (Err r)) m = nowhere
places_for (Sends (Ok w)) m = record nowhere { events = one_at m.own }
places_for (Files k user filter) m = record nowhere { accounts = one_at m.own }
places_for (Puts aims) m = record nowhere { accounts = one_at m.own }
places_for (Marks aims) m = record nowhere { receipts = one_at m.own }
places_for (Notes aims) m = places_noted m.own m.marker

-- no pass was split off on the way to the pass with which these were made
pub record IsAlone (made : Made) : Type 0 where
  pub events : made.events.passes ≡ 0
  pub receipts : made.receipts.passes ≡ 0
  pub accounts : made.accounts.passes ≡ 0

-- a pass from which none was split off has seen just the stores that were made with it
pub record HasAll (made : Made) (seen : Histories) : Type 0 where
  pub events : made.events.passes ≡ 0 → made.events.stores ≡ length seen.events
  pub receipts : made.receipts.passes ≡ 0 → made.receipts.stores ≡ length seen.receipts
  pub accounts : made.accounts.passes ≡ 0 → made.accounts.stores ≡ length seen.accounts
