-- What a call of the reader does to what is ahead of it: the bytes that it holds, and those that its source has left.
use Rattle.std.specs.Prelude.{◌≡◌, ◌⊎◌, ℕ, List, Option, Some, None, Result, Ok, Err}
use Rattle.std.specs.Io.KnownBytes.{Consumes, Keeps, IsAtEnd}
use Rattle.mx_http.specs.declared.call.Call.{Call}
use Rattle.mx_http.specs.declared.fault.HttpFault.{HttpFault}
use Rattle.mx_http.specs.declared.fault.HttpFault.TheVariants as faults
use Rattle.mx_http.specs.Calls.{HasFault, IsBlank, IsCall, IsUnfinished}

-- what is held where no request is given, by the fault: a part of one with nothing behind it, or no request, whatever follows; where the
-- source failed no request is held whole
abbrev pub Fails : List ℕ → Option (List ℕ) → HttpFault → Type 0
Fails held left faults.Cut = IsUnfinished held × (IsBlank held → ⊥) × IsAtEnd left
Fails held left faults.ReadFault = IsBlank held ⊎ IsUnfinished held
Fails held left (faults.Memory _) = Unit {0}
Fails held left fault = HasFault fault held

-- by the answer: a request's bytes go; else nothing of it goes, and what is held is nothing but line ends with nothing
-- behind them, or what the fault says
abbrev pub Reads : Option (List ℕ) → Option (List ℕ) → List ℕ → Option (List ℕ) → Result (Option Call) HttpFault → Type 0
Reads old new held left (Ok (Some call)) = (bytes : List ℕ) × IsCall bytes call × Consumes old new bytes
Reads old new held left (Ok None) = Keeps old new × IsBlank held × IsAtEnd left
Reads old new held left (Err fault) = Keeps old new × Fails held left fault

-- no fault of the source was counted, unless this one says that it failed
abbrev pub CountsFault : HttpFault → ℕ → ℕ → Type 0
CountsFault faults.ReadFault before now = Unit {0}
CountsFault other before now = now ≡ before

-- nor by the answer
abbrev pub CountsReadFault : {A : Type 0} → Result A HttpFault → ℕ → ℕ → Type 0
CountsReadFault (Ok x) before now = now ≡ before
CountsReadFault (Err fault) before now = CountsFault fault before now
