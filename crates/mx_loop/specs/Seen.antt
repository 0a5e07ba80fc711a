-- An answer through a pass that other sessions use too: of what the pass has seen a session has the first stores, as many as at its last mark.
use Rattle.std.specs.Prelude.{◌≡◌, ℕ, ◌+◌, List, Some, false, ⊤}
use Rattle.mx_engine.specs.Shown.{HasLooked}
use Rattle.mx_http.specs.Answers.{body_text}
use Rattle.mx_http.specs.declared.call.Call.{Call}
use Rattle.mx_fold.specs.Lists.{Grows, Histories, lists_of}
use Rattle.mx_ask.specs.declared.ask.Ask.TheVariants as ask
use Rattle.mx_ask.specs.declared.ask.Request.{Request}
use Rattle.mx_poll.specs.Aims.Asked.{Site}
use Rattle.mx_poll.specs.OfEngine.Answers.{Stops, counts, counts_of}
use Rattle.mx_poll.specs.OfEngine.Counts.{Counts}
use Rattle.mx_poll.specs.OfEngine.EnginePass.{EnginePass}
use Rattle.mx_poll.specs.OfEngine.Exchanges.{AtMost, first_of}
use Rattle.mx_poll.specs.OfEngine.Mark.{Mark}
use Rattle.mx_poll.specs.Polls.{IsParked, IsPolled}
use Rattle.mx_poll.specs.declared.states.SyncPoll.{SyncPoll}
use Rattle.mx_serve.specs.Asked.{call_asked}
use Rattle.mx_serve.specs.Steps.{Responds}
use Rattle.mx_serve.specs.Tallies.{WaitsFor}
use Rattle.mx_serve.specs.declared.call_asked.CallAsked.{CallAsked}
use Rattle.mx_serve.specs.declared.call_asked.CallAsked.TheVariants as call
use Rattle.mx_loop.specs.declared.opened.Begun.{Begun}
use Rattle.mx_loop.specs.declared.opened.Begun.TheVariants as begun
use Rattle.mx_loop.specs.declared.opened.Went.{Went}
use Rattle.mx_loop.specs.declared.opened.Went.TheVariants as went

-- a status and a body with their mark, of what was asked at the reading `first` and is answered at the reading `now`: `seen` is what the
-- session had seen, `old` and `new` what the pass had seen and has seen
pub record RespondsSeen (site : Site) (stops : Stops) (asks : CallAsked) (first now : ℕ) (seen : Counts) (old new : Histories) (m : Mark) (status : ℕ) (text : List ℕ) : Type 0 where
  pub grows : Grows old new
  pub within : AtMost (counts m) (counts_of new)
  pub responds : Responds site stops asks now (first_of old seen) (first_of new (counts m)) m status text
  pub waits : WaitsFor site (first_of new (counts m)) m asks first

-- a sync that rests is what was asked at this reading, by this device
pub record IsRestOf (asks : CallAsked) (first : ℕ) (p : SyncPoll) (device : ℕ) : Type 0 where
  pub request : Request
  pub timeout : ℕ
  pub asked : asks ≡ call.Request request
  pub sync : request.ask ≡ ask.Sync (Some p.since) p.filter false p.after timeout
  pub deadline : p.deadline ≡ first + timeout
  pub user : p.user ≡ request.who.user
  pub device_is : device ≡ request.who.device

-- a call is answered, or it is a sync that rests
abbrev pub Begins : Site → Stops → Call → ℕ → Counts → Histories → Histories → Begun → Type 0
Begins site stops c now seen old new (begun.Done t) = RespondsSeen site stops (call_asked site.users c) now now seen old new t.mark t.answer.status (body_text t.answer.body)
Begins site stops c now seen old new (begun.Rests p device) = Grows old new × IsPolled p (lists_of new) × IsRestOf (call_asked site.users c) now p device

-- a sync that rests is answered, or it rests on
abbrev pub Goes : Site → Stops → CallAsked → ℕ → ℕ → Counts → Histories → Histories → Went → Type 0
Goes site stops asks first now seen old new (went.Done t) = RespondsSeen site stops asks first now seen old new t.mark t.answer.status (body_text t.answer.body)
Goes site stops asks first now seen old new (went.Waits parked) = ⊤

-- whatever it asked: `p` is the state that is left
abbrev pub WentBy : ℕ → Histories → Histories → SyncPoll → Went → Type 0
WentBy now old new p (went.Done t) = Grows old new × AtMost (counts t.mark) (counts_of new)
WentBy now old new p (went.Waits parked) = Grows old new × IsParked p now (lists_of new) parked

-- where it rests on, the pass has looked at each stream
abbrev pub LooksToRest : EnginePass → EnginePass → Went → Type 0
LooksToRest old new (went.Done t) = ⊤
LooksToRest old new (went.Waits parked) = HasLooked old new
