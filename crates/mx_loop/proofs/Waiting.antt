-- What reads or writes waits for nothing.
use Rattle.std.proofs.Common.{ℕ}
use Rattle.std.specs.Global.{Vec}
use Rattle.mx_fold.specs.Lists.{Lists}
use Rattle.mx_poll.specs.OfEngine.EnginePass.{EnginePass}
use Rattle.mx_poll.specs.OfEngine.Mark.{Mark}
use Rattle.mx_loop.specs.Stands.{ArePolled, IsReading, IsWaited}
use Rattle.mx_loop.specs.declared.line.Read.TheVariants as read
use Rattle.mx_loop.specs.declared.line.State.{State}
use Rattle.mx_loop.specs.declared.line.State.TheVariants as state
use Rattle.mx_loop.specs.declared.line.Stepped.{Stepped}
use Rattle.mx_loop.specs.declared.line.Stepped.TheVariants as stepped

pub reading_polled : (l : Lists) (marks : Vec Mark) (s : State) (t : Stepped) → IsReading (read.Stays s t) → ArePolled l marks s
reading_polled l marks state.Head t h = tt
reading_polled l marks (state.Body d) t h = tt
reading_polled l marks (state.Rests r) t h = absurd h
reading_polled l marks (state.Writes n) t h = tt
reading_polled l marks (state.Ended e) t h = tt

pub reading_waited : (now : ℕ) (old new : EnginePass) (s : State) (t : Stepped) → IsReading (read.Stays s t) → IsWaited now old new s t
reading_waited now old new (state.Rests r) t h = absurd h
reading_waited now old new state.Head (stepped.Waiting parked) h = absurd h
reading_waited now old new (state.Body d) (stepped.Waiting parked) h = absurd h
reading_waited now old new (state.Writes n) (stepped.Waiting parked) h = absurd h
reading_waited now old new (state.Ended e) (stepped.Waiting parked) h = absurd h
reading_waited now old new state.Head stepped.Moved h = tt
reading_waited now old new (state.Body d) stepped.Moved h = tt
reading_waited now old new (state.Writes n) stepped.Moved h = tt
reading_waited now old new (state.Ended e) stepped.Moved h = tt
reading_waited now old new state.Head stepped.Resting h = tt
reading_waited now old new (state.Body d) stepped.Resting h = tt
reading_waited now old new (state.Writes n) stepped.Resting h = tt
reading_waited now old new (state.Ended e) stepped.Resting h = tt
reading_waited now old new state.Head stepped.Ended h = tt
reading_waited now old new (state.Body d) stepped.Ended h = tt
reading_waited now old new (state.Writes n) stepped.Ended h = tt
reading_waited now old new (state.Ended e) stepped.Ended h = tt
