-- What a call of a port, or of those that give ports, does to the bytes, the ports and the counts.
use Rattle.std.specs.Prelude.{◌≡◌, ℕ, ◌<◌, ◌≤◌, Bool, true, false, List, [], ◌∷◌, length, take, IfSome}
use Rattle.std.specs.declared.option.Option.{Option}
use Rattle.std.specs.Io.KnownBytes.{Consumes, Appends, IsAtEnd}
use Rattle.mx_outside.specs.Calls.{FaultPlan}
use Rattle.mx_outside.specs.Causes.{Rose}
use Rattle.mx_outside.specs.declared.listener.Listened.{Listened}
use Rattle.mx_outside.specs.declared.listener.Listened.TheVariants as listened
use Rattle.mx_outside.specs.declared.port.TookNow.{TookNow}
use Rattle.mx_outside.specs.declared.port.TookNow.TheVariants as took
use Rattle.mx_outside.specs.declared.port.PutNow.{PutNow}
use Rattle.mx_outside.specs.declared.port.PutNow.TheVariants as put
use Rattle.mx_outside.specs.declared.ports.AcceptedNow.{AcceptedNow}
use Rattle.mx_outside.specs.declared.ports.AcceptedNow.TheVariants as accepted

-- a count rose, or stayed
abbrev pub Counts : Bool → ℕ → ℕ → Type 0
Counts true before now = (before ≤ now) × Rose before now
Counts false before now = now ≡ before

abbrev pub has_failed_to_take : TookNow → Bool
has_failed_to_take (took.Got n) = false
has_failed_to_take took.NotYet = false
has_failed_to_take took.End = false
has_failed_to_take took.Failed = true

abbrev pub has_waited_to_take : TookNow → Bool
has_waited_to_take (took.Got n) = false
has_waited_to_take took.NotYet = true
has_waited_to_take took.End = false
has_waited_to_take took.Failed = false

abbrev pub has_failed_to_put : PutNow → Bool
has_failed_to_put (put.Put n) = false
has_failed_to_put put.NotYet = false
has_failed_to_put put.Failed = true

abbrev pub has_waited_to_put : PutNow → Bool
has_waited_to_put (put.Put n) = false
has_waited_to_put put.NotYet = true
has_waited_to_put put.Failed = false

abbrev pub has_failed_to_listen : Listened → Bool
has_failed_to_listen listened.Done = false
has_failed_to_listen listened.Failed = true

abbrev pub has_failed_to_accept : {P : Type 0} → AcceptedNow P → Bool
has_failed_to_accept (accepted.One p) = false
has_failed_to_accept accepted.NotYet = false
has_failed_to_accept accepted.Closed = false
has_failed_to_accept accepted.Failed = true

abbrev pub has_waited_to_accept : {P : Type 0} → AcceptedNow P → Bool
has_waited_to_accept (accepted.One p) = false
has_waited_to_accept accepted.NotYet = true
has_waited_to_accept accepted.Closed = false
has_waited_to_accept accepted.Failed = false

-- a take gives at least one byte, and no more than there is room for
abbrev pub FitsNow : TookNow → ℕ → Type 0
FitsNow (took.Got n) room = (0 < n) × (n ≤ room)
FitsNow other room = Unit {0}

-- the bytes that were left begin with those that were taken, and lose them; the end comes only where none was left
abbrev pub MovesNow : Option (List ℕ) → Option (List ℕ) → TookNow → List ℕ → Type 0
MovesNow old new (took.Got n) into = Consumes old new (take n into)
MovesNow old new took.NotYet into = new ≡ old
MovesNow old new took.End into = IsAtEnd new × (new ≡ old)
MovesNow old new took.Failed into = new ≡ old

-- at least one of the bytes was added, from the front
abbrev pub AddsNow : Option (List ℕ) → Option (List ℕ) → PutNow → List ℕ → Type 0
AddsNow old new (put.Put n) bytes = (0 < n) × (n ≤ length bytes) × Appends old new (take n bytes)
AddsNow old new put.NotYet bytes = new ≡ old
AddsNow old new put.Failed bytes = new ≡ old

-- the ports that were left begin with the one that was given, and lose it; the end comes only where none was left
abbrev pub GivesNow : {P : Type 0} → Option (List P) → Option (List P) → AcceptedNow P → Type 0
GivesNow old new (accepted.One p) = IfSome old (λ ps. IfSome new (λ qs. ps ≡ p ∷ qs))
GivesNow old new accepted.NotYet = new ≡ old
GivesNow old new accepted.Closed = IfSome old (λ ps. ps ≡ []) × (new ≡ old)
GivesNow old new accepted.Failed = new ≡ old

-- what a port in memory holds: the bytes left and written, the greatest number that one call moves, which calls fail, and which
-- aren't ready
pub record PortState : Type 0 where
  pub left : List ℕ
  pub written : List ℕ
  pub piece : ℕ
  pub plan : FaultPlan
  pub busy : FaultPlan

-- what a list of ports in memory holds
pub record PortsState (P : Type 0) : Type 0 where
  pub left : List P
  pub plan : FaultPlan
  pub busy : FaultPlan
