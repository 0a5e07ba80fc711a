-- What a sink and the stage before it hold, and what a call that puts bytes does to them.
use Rattle.std.specs.Prelude.{◌≡◌, ℕ, ◌≤◌, List, ◌++◌, take, Option, Result, Ok, Err}
use Rattle.std.specs.Io.KnownBytes.{Appends}
use Rattle.mx_outside.specs.Causes.{Rose}

-- the bytes that a sink took, where it tells them, its count of faults, and the bytes that wait before it
pub record State : Type 0 where
  pub written : Option (List ℕ)
  pub faults : ℕ
  pub stage : List ℕ

-- the state of a sink, by what it says of itself, with a stage
abbrev pub state_of : {S : Type 0} → (S → Option (List ℕ)) → (S → ℕ) → S → List ℕ → State
state_of written faults sink stage = record { written = written sink; faults = faults sink; stage = stage }

-- the bytes were put behind the stage: the sink took a front of the two, and the stage holds the rest
pub record Puts (old new : State) (bytes : List ℕ) : Type 0 where
  pub out : List ℕ
  pub sent : Appends old.written new.written out
  pub left : old.stage ++ bytes ≡ out ++ new.stage
  pub count : old.faults ≤ new.faults

-- the sink failed, after it took a front of the stage and the bytes
pub record Stops (old new : State) (bytes : List ℕ) : Type 0 where
  pub n : ℕ
  pub sent : Appends old.written new.written (take n (old.stage ++ bytes))
  pub count : old.faults ≤ new.faults
  pub cause : Rose old.faults new.faults

-- all of the bytes were put, or the sink failed
abbrev pub Sends : {T E : Type 0} → State → Result T E → State → List ℕ → Type 0
Sends old (Ok _) new bytes = Puts old new bytes
Sends old (Err _) new bytes = Stops old new bytes
