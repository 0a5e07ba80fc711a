-- The headline, over the exchanges of several connections on one engine.
use Rattle.std.specs.Prelude.{◌≡◌, ℕ, ◌≤◌, List, [], ◌∷◌, Option, Some, None, map, ⊤}
use Rattle.std.specs.List.{AllByRecursion, slice_get}
use Rattle.mx_http.specs.declared.call.Call.{Call}
use Rattle.mx_ids.specs.declared.users.Users.{Users}
use Rattle.mx_chains.specs.Chains.{AgreeAnywhere, AgreeFollowing, AgreeRedacted, See}
use Rattle.mx_fold.specs.Lists.{AreLawful, Grows, Histories}
use Rattle.mx_poll.specs.OfEngine.Answers.{Stops}
use Rattle.mx_poll.specs.Aims.Asked.{Site}
use Rattle.mx_poll.specs.OfEngine.Answered.{Answered}
use Rattle.mx_poll.specs.OfEngine.Counts.{Counts}
use Rattle.mx_poll.specs.OfEngine.Mark.{Mark}
use Rattle.mx_ask.specs.declared.ask.Request.{Request}
use Rattle.mx_serve.specs.Asked.{call_asked}
use Rattle.mx_serve.specs.Chains.{answers_of, requests_of}
use Rattle.mx_serve.specs.Exchanges.{AreTurns, exchanges_bytes}
use Rattle.mx_serve.specs.declared.call_asked.CallAsked.{CallAsked}
use Rattle.mx_serve.specs.declared.call_asked.CallAsked.TheVariants as call

-- the calls of a connection with their marks, from what its pass had seen to what it has seen
pub record Session : Type 0 where
  pub before : Counts
  pub calls : List Call
  pub marks : List Mark
  pub seen : Histories

-- what its pass has seen begins these lists
pub record IsBegun (site : Site) (stops : Stops) (all : Histories) (c : Session) : Type 0 where
  pub turns : AreTurns site stops c.seen c.before c.calls c.marks
  pub begins : Grows c.seen all

-- its answers are those on these lists, each on the first stores that its mark counts, whatever the number of requests that it may have
pub record IsAnsweredOn (site : Site) (stops : Stops) (all : Histories) (c : Session) : Type 0 where
  pub turns : AreTurns site stops all c.before c.calls c.marks
  pub bytes : (limit : ℕ) → exchanges_bytes site c.seen limit 0 c.calls c.marks ≡ exchanges_bytes site all limit 0 c.calls c.marks

-- ---- what a client takes from several connections

-- an exchange, by the number of its connection among these and by its own number on it, both from 0
pub record Pick : Type 0 where
  pub on : ℕ
  pub at : ℕ

-- a call with its mark, and the number of its connection
pub record Exchanged : Type 0 where
  pub on : ℕ
  pub call : Call
  pub mark : Mark

abbrev pub exchanged : ℕ → List Call → List Mark → List Exchanged
exchanged on [] marks = []
exchanged on (c ∷ calls) [] = []
exchanged on (c ∷ calls) (m ∷ marks) = record { on = on; call = c; mark = m } ∷ exchanged on calls marks

abbrev pub exchanged_on : ℕ → Option Session → List Exchanged
exchanged_on on None = []
exchanged_on on (Some c) = exchanged on c.calls c.marks

abbrev pub picked_at : List Session → Pick → Option Exchanged
picked_at cs p = slice_get (exchanged_on p.on (slice_get cs p.on)) p.at

abbrev pub with_picked : Option Exchanged → List Exchanged → List Exchanged
with_picked None xs = xs
with_picked (Some x) xs = x ∷ xs

-- the exchanges that are picked, in the order of the picks
abbrev pub picked : List Session → List Pick → List Exchanged
picked cs [] = []
picked cs (p ∷ ps) = with_picked (picked_at cs p) (picked cs ps)

-- those of each connection are picked in its order
abbrev pub AreInOrder : List Pick → Type 0
AreInOrder [] = ⊤
AreInOrder (p ∷ ps) = AllByRecursion (λ q. q.on ≡ p.on → p.at ≤ q.at) ps × AreInOrder ps

-- what they ask of the engine, and what it answers
abbrev pub requests_in : Users → List Exchanged → List Request
requests_in users xs = requests_of users (map (λ x. x.call) xs)

abbrev pub answers_in : Site → Histories → List Exchanged → List Answered
answers_in site all xs = answers_of site all (map (λ x. x.call) xs) (map (λ x. x.mark) xs)

abbrev pub with_number : ℕ → CallAsked → List ℕ → List ℕ
with_number on call.Options ns = ns
with_number on call.Versions ns = ns
with_number on (call.Refused r) ns = ns
with_number on (call.Request r) ns = on ∷ ns

-- the number of the connection of each of these requests
abbrev pub numbers_in : Users → List Exchanged → List ℕ
numbers_in users [] = []
numbers_in users (x ∷ xs) = with_number x.on (call_asked users x.call) (numbers_in users xs)

-- ---- the headline

-- All connections are answered on one history; and whichever of their calls with their marks a client takes, in whatever order, its
-- chain agrees with the picture at its token, if its pages were asked where the lists reach its token, and what it is sent is visible.
pub record Together (site : Site) (stops : Stops) (all : Histories) (cs : List Session) : Type 0 where
  pub answered : AllByRecursion (IsAnsweredOn site stops all) cs
  pub agree : (calls : List Call) (marks : List Mark) → AgreeAnywhere site all (requests_of site.users calls) (answers_of site all calls marks)
  -- the same where its pages were asked on the connection of its last sync, and what it takes of each connection in its order
  pub follow : (picks : List Pick) → AreInOrder picks
      → AgreeFollowing site all (numbers_in site.users (picked cs picks)) (requests_in site.users (picked cs picks)) (answers_in site all (picked cs picks))
  -- the same of a client that redacts its copies by all redactions that its timelines hold, wherever its pages were asked
  pub redact : (calls : List Call) (marks : List Mark) → AgreeRedacted site all (requests_of site.users calls) (answers_of site all calls marks)
  pub see : (calls : List Call) (marks : List Mark) → See site all (requests_of site.users calls) (answers_of site all calls marks)

abbrev pub SessionsAgree : Type 0
SessionsAgree = (site : Site) (stops : Stops) (all : Histories) (cs : List Session)
    → AllByRecursion (IsBegun site stops all) cs → AreLawful all → Together site stops all cs
