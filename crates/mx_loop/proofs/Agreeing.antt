-- The chains of a session agree at each moment.
use Rattle.std.proofs.Common.{ℕ, List}
use Rattle.mx_http.specs.declared.call.Call.{Call}
use Rattle.mx_fold.specs.Lists.{Histories}
use Rattle.mx_poll.specs.Aims.Asked.{Site}
use Rattle.mx_poll.specs.OfEngine.Answers.{Stops, counts_of}
use Rattle.mx_serve.specs.Exchanges.{AreTurns}
use Rattle.mx_serve.specs.Sessions.{Moment}
use Rattle.mx_serve.proofs.Chaining.{connections_agree}
use Rattle.mx_loop.specs.Laws.{SessionsAgree}
use Rattle.mx_loop.specs.Stands.{Sight, Stands, Then}
use Rattle.mx_loop.specs.declared.line.Next.{Next}
use Rattle.mx_loop.specs.declared.line.Next.TheVariants as next
use Rattle.mx_loop.specs.declared.line.State.{State}
use Rattle.mx_loop.specs.declared.line.State.TheVariants as state

module _ (site : Site) (stops : Stops) (limit : ℕ) (start : Moment) (lists : Histories) (s : Sight) where
  turns_then : (n : Next) (sent : List ℕ) → Then site stops limit start lists s sent n → (calls : List Call) × AreTurns site stops lists (counts_of start.lists) calls s.marks
  turns_then next.Reads sent h = (h.0.served.calls, h.0.served.turns)
  turns_then next.Asks sent h = (h.0.calls, h.0.is.turns)
  turns_then next.Fills sent h = (h.0.calls, h.0.is.turns)
  turns_then (next.Refuses fault) sent h = (h.0.calls, h.0.is.turns)

  turns_of : (t : State) → Stands site stops limit start lists s t → (calls : List Call) × AreTurns site stops lists (counts_of start.lists) calls s.marks
  turns_of state.Head h = (h.1.served.calls, h.1.served.turns)
  turns_of (state.Body d) h = (h.1.served.calls, h.1.served.turns)
  turns_of (state.Rests r) h = (h.called.before.served.calls, h.called.before.served.turns)
  turns_of (state.Writes n) h = turns_then n h.0 h.2
  turns_of (state.Ended e) h = (h.calls, h.is.turns)

pub sessions_agree : SessionsAgree
sessions_agree site stops limit start lists s t h lawful =
    let x = turns_of site stops limit start lists s t h in
    (x.0, connections_agree site stops lists (counts_of start.lists) x.0 s.marks x.1 lawful)
