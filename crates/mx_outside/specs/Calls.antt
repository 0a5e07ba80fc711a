-- Which calls of an object in memory fail: those whose numbers, from 0, were listed.
use Rattle.std.specs.Prelude.{ℕ, ◌+◌, ◌-◌, ◌^◌, Bool, true, false, min, List, ◌==◌, if◌then◌else◌, length}
use Rattle.std.specs.List.{list_any}
use Rattle.mx_outside.specs.declared.sink.Put.{Put}
use Rattle.mx_outside.specs.declared.sink.Put.TheVariants as put
use Rattle.mx_outside.specs.declared.source.Took.{Took}
use Rattle.mx_outside.specs.declared.source.Took.TheVariants as took

-- the numbers of the calls that fail, the number of the next call, and the faults so far
pub record FaultPlan : Type 0 where
  pub failing : List ℕ
  pub next : ℕ
  pub faults : ℕ

-- no call was made yet
abbrev pub fresh : List ℕ → FaultPlan
fresh failing = record { failing = failing; next = 0; faults = 0 }

-- the next call is one of those that fail
abbrev pub is_failing : FaultPlan → Bool
is_failing plan = list_any (λ call. call == plan.next) plan.failing

-- a count goes up by one, and stays at the greatest value of its type
abbrev pub counted : ℕ → ℕ
counted n = min (n + 1) (2 ^ 64 - 1)

-- what a call leaves, by whether it failed
abbrev pub called : Bool → FaultPlan → FaultPlan
called false plan = record plan { next = counted plan.next }
called true plan = record plan { next = counted plan.next; faults = counted plan.faults }

-- what a source in memory holds: the bytes left, and the greatest number that one take gives
pub record SourceState : Type 0 where
  pub left : List ℕ
  pub piece : ℕ
  pub plan : FaultPlan

-- what a take with this much room answers
abbrev pub taken : SourceState → ℕ → Took
taken source room =
    if is_failing source.plan then took.Failed else
    if length source.left == 0 then took.End else
    took.Got (min (min room source.piece) (length source.left))

-- what a sink in memory holds
pub record SinkState : Type 0 where
  pub written : List ℕ
  pub plan : FaultPlan

-- the put failed
abbrev pub has_failed : Put → Bool
has_failed put.Done = false
has_failed put.Failed = true

-- what a listener in memory holds
pub record ListenerState (P : Type 0) : Type 0 where
  pub left : List P
  pub plan : FaultPlan
