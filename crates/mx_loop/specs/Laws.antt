-- The headline, over the sessions of a loop.
use Rattle.std.specs.Prelude.{ℕ, List}
use Rattle.mx_http.specs.declared.call.Call.{Call}
use Rattle.mx_fold.specs.Lists.{AreLawful, Histories}
use Rattle.mx_poll.specs.Aims.Asked.{Site}
use Rattle.mx_poll.specs.OfEngine.Answers.{Stops}
use Rattle.mx_serve.specs.Chains.{Headline}
use Rattle.mx_serve.specs.Sessions.{Moment}
use Rattle.mx_loop.specs.Stands.{Sight, Stands}
use Rattle.mx_loop.specs.declared.line.State.{State}

-- whatever a session is doing: the chains of the requests that it answered so far agree
abbrev pub SessionsAgree : Type 0
SessionsAgree = (site : Site) (stops : Stops) (limit : ℕ) (start : Moment) (lists : Histories) (s : Sight) (t : State)
    → Stands site stops limit start lists s t → AreLawful lists → (calls : List Call) × Headline site lists calls s.marks
