-- What a spawner holds, and what a start answers.
use Rattle.std.specs.Prelude.{Bool, true, false}
use Rattle.mx_outside.specs.Calls.{FaultPlan}
use Rattle.mx_outside.specs.declared.spawner.Started.{Started}
use Rattle.mx_outside.specs.declared.spawner.Started.TheVariants as started
use Rattle.mx_outside.specs.declared.spawner.Way.{Way}
use Rattle.mx_outside.specs.declared.spawner.Way.TheVariants as way

-- whether jobs run in the caller, and which starts are refused
pub record SpawnerState : Type 0 where
  pub in_caller : Bool
  pub plan : FaultPlan

abbrev pub is_in_caller : Way → Bool
is_in_caller way.InCaller = true
is_in_caller (way.InThreads running) = false

-- the job wasn't started
abbrev pub is_refused : Started → Bool
is_refused started.Running = false
is_refused started.Refused = true
