-- The headline: whatever is asked on a pass, and whatever others store in between, what a client holds is what its picture has,
-- and what it is sent is visible to it.
use Rattle.std.specs.Prelude.{◌≡◌, ℕ, true, List, [], ◌∷◌, None, IfSome, ⊤}
use Rattle.std.specs.Option.{option_map}
use Rattle.mx_filter.specs.Sieves as sieves
use Rattle.mx_filter.specs.declared.parts.Selection.{Selection}
use Rattle.mx_fold.specs.Clients.{Agrees, chain}
use Rattle.mx_fold.specs.Anywhere.{EachRises, PagesFollow, PagesReach}
use Rattle.mx_fold.specs.Exchanges.{AreSent, Mark}
use Rattle.mx_fold.specs.Lists.{AreLawful, Histories, lists_of}
use Rattle.mx_refold.specs.Clients.{redacted_client}
use Rattle.mx_sync.specs.Replies.{server_for}
use Rattle.mx_ask.specs.declared.ask.Request.{Request}
use Rattle.mx_engine.specs.Answers.{Stops, answer_to, counts}
use Rattle.mx_engine.specs.Aims.Asked.{Site}
use Rattle.mx_engine.specs.Exchanges.{AreExchanges, first_of}
use Rattle.mx_engine.specs.declared.answered.Answered.{Answered}
use Rattle.mx_engine.specs.declared.answered.Counts.{Counts}
use Rattle.mx_chains.specs.Heard.{exchanges_of}
use Rattle.mx_chains.specs.Seen.{PagesSee}

-- each device's chain with each filter that picks state by type and room agrees with the picture at its token, with every
-- gap filled by the events that it stands for
abbrev pub Agree : Site → Histories → List Request → List Answered → Type 0
Agree site all requests answers =
    (user : List ℕ) (device : ℕ) (f : Selection) → sieves.folds f ≡ true
    → IfSome (chain (server_for user) device f None (exchanges_of site user device all requests answers)) (Agrees (server_for user) user f (lists_of all))

-- each event that a timeline or a gap's page sends to a device is visible to its user at the front of the lists at the mark, and so is each
-- event of every other page: forward ones, and those from a sync token
pub record See (site : Site) (all : Histories) (requests : List Request) (answers : List Answered) : Type 0 where
  pub sent : (user : List ℕ) (device : ℕ) → AreSent (server_for user) (exchanges_of site user device all requests answers)
  pub pages : PagesSee site all requests answers

abbrev pub AnswersAgree : Type 0
AnswersAgree = (site : Site) (stops : Stops) (all : Histories) (before : Counts) (requests : List Request) (answers : List Answered)
    → AreExchanges site stops all before requests answers → AreLawful all → Agree site all requests answers

abbrev pub AnswersSee : Type 0
AnswersSee = (site : Site) (stops : Stops) (all : Histories) (before : Counts) (requests : List Request) (answers : List Answered)
    → AreExchanges site stops all before requests answers → AreLawful all → See site all requests answers

-- ---- over several connections

-- each answer is *Answer*'s on the stores that its mark counts, in whatever order the marks stand
abbrev pub AreAnswers : Site → Histories → List Request → List Answered → Type 0
AreAnswers site all [] answers = ⊤
AreAnswers site all (r ∷ rs) [] = ⊤
AreAnswers site all (r ∷ rs) (a ∷ answers) = (a.said ≡ answer_to site (first_of all (counts a.mark)) a.mark a.mark.now r.who r.ask) × AreAnswers site all rs answers

-- each device's chain with each filter that picks state by type and room agrees with the picture at its token, if its pages were
-- asked where the lists reach its token
abbrev pub AgreeAnywhere : Site → Histories → List Request → List Answered → Type 0
AgreeAnywhere site all requests answers =
    (user : List ℕ) (device : ℕ) (f : Selection) → sieves.folds f ≡ true
    → PagesReach (server_for user) device f None (exchanges_of site user device all requests answers)
    → IfSome (chain (server_for user) device f None (exchanges_of site user device all requests answers)) (Agrees (server_for user) user f (lists_of all))

abbrev pub ClientsAgree : Type 0
ClientsAgree = (site : Site) (all : Histories) (requests : List Request) (answers : List Answered)
    → AreAnswers site all requests answers → AreLawful all → AgreeAnywhere site all requests answers

-- each device's chain with each filter that picks state by type and room, once its copies are redacted by all redactions that its
-- timelines hold, agrees with the picture at its token, wherever its pages were asked
abbrev pub AgreeRedacted : Site → Histories → List Request → List Answered → Type 0
AgreeRedacted site all requests answers =
    (user : List ℕ) (device : ℕ) (f : Selection) → sieves.folds f ≡ true
    → IfSome (option_map (redacted_client (server_for user) user f) (chain (server_for user) device f None (exchanges_of site user device all requests answers)))
    (Agrees (server_for user) user f (lists_of all))

abbrev pub ClientsRedact : Type 0
ClientsRedact = (site : Site) (all : Histories) (requests : List Request) (answers : List Answered)
    → AreAnswers site all requests answers → AreLawful all → AgreeRedacted site all requests answers

abbrev pub ClientsSee : Type 0
ClientsSee = (site : Site) (all : Histories) (requests : List Request) (answers : List Answered)
    → AreAnswers site all requests answers → AreLawful all → See site all requests answers

-- how many stores each answer's mark counts
abbrev pub mark_of : Answered → Mark
mark_of a = record { stores = record { events = a.mark.events; receipts = a.mark.receipts; accounts = a.mark.accounts }; memory = a.mark.memory }

abbrev pub marks_of : List Request → List Answered → List Mark
marks_of [] answers = []
marks_of (r ∷ rs) [] = []
marks_of (r ∷ rs) (a ∷ answers) = mark_of a ∷ marks_of rs answers

-- the same of a client that asks its pages on the connection of its last sync; `ons` are the numbers of the connections
abbrev pub AgreeFollowing : Site → Histories → List ℕ → List Request → List Answered → Type 0
AgreeFollowing site all ons requests answers =
    (user : List ℕ) (device : ℕ) (f : Selection) → sieves.folds f ≡ true
    → PagesFollow (server_for user) device f None None ons (exchanges_of site user device all requests answers)
    → IfSome (chain (server_for user) device f None (exchanges_of site user device all requests answers)) (Agrees (server_for user) user f (lists_of all))

abbrev pub FollowersAgree : Type 0
FollowersAgree = (site : Site) (all : Histories) (ons : List ℕ) (requests : List Request) (answers : List Answered)
    → AreAnswers site all requests answers → EachRises ons (marks_of requests answers) → AreLawful all → AgreeFollowing site all ons requests answers
