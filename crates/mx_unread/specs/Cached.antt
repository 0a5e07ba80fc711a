-- Tallies in a cache, by room and user.
use Rattle.std.specs.Prelude.{List, [], map, Option, Some, None}
use Rattle.std.specs.List.{AllByRecursion}
use Rattle.mx_snapshot.specs.declared.snapshot.Snapshot.{Snapshot}
use Rattle.mx_unread.specs.Kept.{IsOf, StandsWithin}
use Rattle.mx_unread.specs.declared.held.Held.{Held}
use Rattle.mx_unread.specs.declared.running.Tally.{Tally}
use Rattle.mx_unread.specs.declared.tally_key.TallyKey.{TallyKey}

-- a tally and the key under which it is kept
abbrev pub TallyEntry : Type 0
TallyEntry = TallyKey × Tally

-- the entries that are held, if there are any
abbrev pub entries_of : Option Held → List TallyEntry
entries_of None = []
entries_of (Some h) = h.cache.entries

abbrev pub tally_in : TallyEntry → Tally
tally_in e = e.1

abbrev pub tallies_of : List TallyEntry → List Tally
tallies_of es = map tally_in es

-- each tally is kept under its own room and user
abbrev pub IsKeyed : TallyEntry → Type 0
IsKeyed e = IsOf e.1 e.0.room e.0.user

abbrev pub AreKeyed : List TallyEntry → Type 0
AreKeyed es = AllByRecursion IsKeyed es

-- each is kept under its own room and user, and stands for a snapshot
abbrev pub IsStanding : Snapshot → TallyEntry → Type 0
IsStanding s e = IsKeyed e × StandsWithin s e.1

abbrev pub AreStanding : Snapshot → List TallyEntry → Type 0
AreStanding s es = AllByRecursion (IsStanding s) es
