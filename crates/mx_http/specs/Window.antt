-- The bytes that a reader holds, and the room in front of and behind them.
use Rattle.std.specs.Prelude.{◌≡◌, ℕ, ◌<◌, List, ◌++◌, Bool, true, false, Option, Result, Ok, Err, length}
use Rattle.std.specs.Io.KnownBytes.{Consumes, Keeps, IsAtEnd}
use Rattle.mx_http.specs.declared.fault.HttpFault.{HttpFault}
use Rattle.mx_http.specs.declared.fault.HttpFault.TheVariants as faults

pub record Window : Type 0 where
  pub gap : ℕ
  pub held : List ℕ
  pub room : ℕ

-- the source failed, or memory was refused
abbrev pub IsFillFault : HttpFault → Type 0
IsFillFault faults.ReadFault = Unit {0}
IsFillFault (faults.Memory _) = Unit {0}
IsFillFault other = ⊥

-- bytes came from the source to the end of those that were held, or the source has none left, or nothing happened
abbrev pub Fills : Option (List ℕ) → Option (List ℕ) → List ℕ → List ℕ → Result Bool HttpFault → Type 0
Fills old new before now (Ok true) = (piece : List ℕ) × (0 < length piece) × (now ≡ before ++ piece) × Consumes old new piece
Fills old new before now (Ok false) = (now ≡ before) × Keeps old new × IsAtEnd new
Fills old new before now (Err fault) = IsFillFault fault × (now ≡ before) × Keeps old new
