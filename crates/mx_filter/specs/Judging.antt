-- What a check of a filter's fields answers: the first field that is of the wrong type, or want of memory.
use Rattle.std.specs.Prelude.{◌≡◌, ℕ, List, Option, Some, None, Result, Ok, Err, ⊤}
use Rattle.mx_filter.specs.declared.fault.FilterFault.{FilterFault}
use Rattle.mx_filter.specs.declared.fault.FilterFault.TheVariants as faults

abbrev pub JudgesFault : FilterFault → Option (List ℕ) → Type 0
JudgesFault (faults.Shape path) wrong = wrong ≡ Some path
JudgesFault faults.Format wrong = ⊥
JudgesFault (faults.Memory _) wrong = ⊤

abbrev pub Judges : Result (Unit {0}) FilterFault → Option (List ℕ) → Type 0
Judges (Ok u) wrong = wrong ≡ None
Judges (Err e) wrong = JudgesFault e wrong
