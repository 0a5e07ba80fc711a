-- What a call comes to before the engine is asked.
use Rattle.std.specs.Prelude.{◌≡◌, ℕ, Bool}
use Rattle.mx_http.specs.Answers.{body_text}
use Rattle.mx_fold.specs.Lists.{Histories}
use Rattle.mx_ask.specs.Asks.{IsAsk}
use Rattle.mx_poll.specs.OfEngine.Answers.{Stops, reading}
use Rattle.mx_poll.specs.Aims.Asked.{Site}
use Rattle.mx_poll.specs.OfEngine.Mark.{Mark}
use Rattle.mx_serve.specs.Steps.{Responds}
use Rattle.mx_serve.specs.Tallies.{WaitsFor}
use Rattle.mx_serve.specs.declared.call_asked.CallAsked.{CallAsked}
use Rattle.mx_serve.specs.declared.call_asked.CallAsked.TheVariants as call
use Rattle.mx_serve.specs.declared.opening.Opened.{Opened}
use Rattle.mx_serve.specs.declared.opening.Opened.TheVariants as opened

-- the mark of an answer for which the engine isn't asked
abbrev pub idle_mark : Bool → ℕ → Histories → Mark
idle_mark memory now lists = record (reading now lists) { memory = memory }

-- an answer at any reading, on any lists, with such a mark; or a request of the engine
abbrev pub Opens : Site → Stops → CallAsked → Opened → Type 0
Opens site stops asks (opened.Answered a memory) =
    (now : ℕ) (lists : Histories) → Responds site stops asks now lists lists (idle_mark memory now lists) a.status (body_text a.body) × WaitsFor site lists (idle_mark memory now lists) asks now
Opens site stops asks (opened.Asked r) = (asks ≡ call.Request r) × IsAsk r.ask
