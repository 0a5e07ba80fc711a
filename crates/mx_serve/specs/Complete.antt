-- All requests of a source are answered where nothing outside fails.
use Rattle.std.specs.Prelude.{◌≡◌, ℕ, ◌<◌, List, ◌++◌, Some, true, length}
use Rattle.mx_outside.specs.Causes.{Rose}
use Rattle.mx_http.specs.declared.call.Call.{Call}
use Rattle.mx_http.specs.Calls.{AreCalls}
use Rattle.mx_poll.specs.OfEngine.Answers.{Stops}
use Rattle.mx_poll.specs.Aims.Asked.{Site}
use Rattle.mx_poll.specs.OfEngine.Mark.{Mark}
use Rattle.mx_serve.specs.declared.ended.End.{End}
use Rattle.mx_serve.specs.declared.ended.End.TheVariants as end
use Rattle.mx_serve.specs.Sessions.{InputFaults, IsServed, Moment, OutputFaults, asks_end}

-- these are the first of all
abbrev pub AreFirst : List Call → List Call → Type 0
AreFirst calls all = (others : List Call) × (all ≡ calls ++ others)

-- of all the requests of a source these were answered: all, or those up to the first that asks to end, or memory was wanting for reading
-- the next one
abbrev pub AnswersAll : End → List Call → List Call → Type 0
AnswersAll end.Closed calls all = calls ≡ all
AnswersAll end.Asked calls all = (asks_end calls ≡ true) × AreFirst calls all
AnswersAll (end.Memory _) calls all = AreFirst calls all
AnswersAll other calls all = ⊥

-- the counts of faults of the source and of the sink are those of the end, and neither rose
pub record HasNoFault (ended : End) (reads reads_now writes writes_now : ℕ) : Type 0 where
  pub input : InputFaults ended reads reads_now
  pub output : OutputFaults ended writes writes_now
  pub none_read : Rose reads reads_now → ⊥
  pub none_written : Rose writes writes_now → ⊥

-- on a connection of so many requests, where the source tells its bytes, which are fewer requests, all whole
abbrev pub AnswersWhole : Type 0
AnswersWhole = (site : Site) (stops : Stops) (limit : ℕ) (old new : Moment) (calls all : List Call) (marks : List Mark) (ended : End) (bytes : List ℕ)
    (reads reads_now writes writes_now : ℕ)
    → IsServed site stops limit old new calls marks ended → HasNoFault ended reads reads_now writes writes_now
    → old.left ≡ Some bytes → AreCalls bytes all → length all < limit → AnswersAll ended calls all
