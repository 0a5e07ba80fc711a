-- What a call of a source, a sink or a set of files does to the bytes, where the object tells them.
use Rattle.std.specs.Prelude.{◌≡◌, ℕ, ◌<◌, ◌≤◌, List, length, take, IfSome}
use Rattle.std.specs.declared.option.Option.{Option}
use Rattle.std.specs.Io.KnownBytes.{Consumes, Appends, Keeps, IsAtEnd}
use Rattle.mx_outside.specs.declared.source.Took.{Took}
use Rattle.mx_outside.specs.declared.source.Took.TheVariants as took
use Rattle.mx_outside.specs.declared.sink.Put.{Put}
use Rattle.mx_outside.specs.declared.sink.Put.TheVariants as put

-- a take gives at least one byte, and no more than there is room for
abbrev pub FitsRoom : Took → ℕ → Type 0
FitsRoom (took.Got n) room = (0 < n) × (n ≤ room)
FitsRoom took.End room = Unit {0}
FitsRoom took.Failed room = Unit {0}

-- the bytes that were left begin with those that were taken, and lose them; the end comes only
-- where none was left, and a failed take loses none
abbrev pub Moves : Option (List ℕ) → Option (List ℕ) → Took → List ℕ → Type 0
Moves old new (took.Got n) into = Consumes old new (take n into)
Moves old new took.End into = IsAtEnd new × Keeps old new
Moves old new took.Failed into = Keeps old new

-- all of the bytes were added, or the first n of them where the put failed
abbrev pub Adds : Option (List ℕ) → Option (List ℕ) → Put → List ℕ → Type 0
Adds old new put.Done bytes = Appends old new bytes
Adds old new put.Failed bytes = (n : ℕ) × Appends old new (take n bytes)

-- these are the bytes of the file
abbrev pub Holds : Option (List ℕ) → List ℕ → Type 0
Holds told bytes = IfSome told (λ held. bytes ≡ held)

-- the file has more than this many bytes
abbrev pub IsLonger : Option (List ℕ) → ℕ → Type 0
IsLonger told most = IfSome told (λ held. most < length held)
