-- What a change of rules answers: the fault that there is, or want of memory.
use Rattle.std.specs.Prelude.{◌≡◌, Option, Some, None, Result, Ok, Err, ⊤}
use Rattle.mx_rules.specs.declared.fault.RuleFault.{RuleFault}
use Rattle.mx_rules.specs.declared.fault.RuleFault.TheVariants as faults

abbrev pub JudgesFault : RuleFault → Option RuleFault → Type 0
JudgesFault faults.DefaultRule fault = fault ≡ Some faults.DefaultRule
JudgesFault faults.NoRule fault = fault ≡ Some faults.NoRule
JudgesFault faults.BadCondition fault = fault ≡ Some faults.BadCondition
JudgesFault faults.BadAction fault = fault ≡ Some faults.BadAction
JudgesFault (faults.NoNeighbour side) fault = fault ≡ Some (faults.NoNeighbour side)
JudgesFault (faults.Memory _) fault = ⊤

abbrev pub Judges : Result (Unit {0}) RuleFault → Option RuleFault → Type 0
Judges (Ok u) fault = fault ≡ None
Judges (Err e) fault = JudgesFault e fault
