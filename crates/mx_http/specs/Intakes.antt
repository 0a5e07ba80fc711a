-- What the calls of an intake do to what is ahead of it.
use Rattle.std.specs.Prelude.{◌≡◌, ℕ, ◌+◌, ◌<◌, ◌≤◌, List, ◌++◌, Bool, false, Option, Some, None, Result, Ok, Err, length, drop, slice_range}
use Rattle.std.specs.Io.KnownBytes.{Consumes, IsAtEnd}
use Rattle.mx_ids.specs.declared.memory.Memory.{Memory}
use Rattle.mx_outside.specs.Ports.{has_failed_to_take, has_waited_to_take}
use Rattle.mx_outside.specs.declared.port.TookNow.{TookNow}
use Rattle.mx_outside.specs.declared.port.TookNow.TheVariants as took
use Rattle.mx_http.specs.declared.head.Head.{Head}

-- bytes came from the port to the end of those that were held; or it has none left; or nothing happened
abbrev pub FillsNow : Option (List ℕ) → Option (List ℕ) → List ℕ → List ℕ → Result TookNow Memory → Type 0
FillsNow old new before now (Ok (took.Got n)) = (piece : List ℕ) × (0 < length piece) × (now ≡ before ++ piece) × Consumes old new piece
FillsNow old new before now (Ok took.NotYet) = (now ≡ before) × (new ≡ old)
FillsNow old new before now (Ok took.End) = (now ≡ before) × (new ≡ old) × IsAtEnd new
FillsNow old new before now (Ok took.Failed) = (now ≡ before) × (new ≡ old)
FillsNow old new before now (Err wanting) = (now ≡ before) × (new ≡ old)

abbrev pub has_failed : Result TookNow Memory → Bool
has_failed (Ok t) = has_failed_to_take t
has_failed (Err wanting) = false

abbrev pub has_waited : Result TookNow Memory → Bool
has_waited (Ok t) = has_waited_to_take t
has_waited (Err wanting) = false

-- the body of a head goes with it; or it isn't held whole yet
abbrev pub TakesBody : List ℕ → List ℕ → Head → Result (Option (List ℕ)) Memory → Type 0
TakesBody old new head (Ok (Some body)) =
    (head.len + head.size ≤ length old) × (body ≡ slice_range old head.len (head.len + head.size)) × (new ≡ drop (head.len + head.size) old)
TakesBody old new head (Ok None) = (new ≡ old) × (length old < head.len + head.size)
TakesBody old new head (Err wanting) = new ≡ old
