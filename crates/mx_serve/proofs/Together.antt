-- Connections whose passes have seen beginnings of one history are answered on it.
use Rattle.std.proofs.Common.{List, [], ◌∷◌, map, refl, arith}
use Rattle.std.specs.List.{AllByRecursion}
use Rattle.mx_http.specs.declared.call.Call.{Call}
use Rattle.mx_chains.proofs.Chaining as law
use Rattle.mx_chains.specs.Chains.{AreAnswers}
use Rattle.mx_fold.specs.Lists.{Grows, Histories}
use Rattle.mx_poll.specs.OfEngine.Answers.{Stops, counts}
use Rattle.mx_poll.specs.Aims.Asked.{Site}
use Rattle.mx_poll.specs.OfEngine.Answered.{Answered}
use Rattle.mx_poll.specs.OfEngine.Counts.{Counts}
use Rattle.mx_poll.specs.OfEngine.Mark.{Mark}
use Rattle.mx_poll.proofs.OfEngine.Exchanges.{longer}
use Rattle.mx_ask.specs.declared.ask.Request.{Request}
use Rattle.mx_serve.specs.Asked.{call_asked}
use Rattle.mx_serve.specs.Chains.{answers_of, requests_of, with_answer, with_request}
use Rattle.mx_serve.specs.Exchanges.{AreTurns}
use Rattle.mx_serve.specs.Together.{Exchanged, IsAnsweredOn, IsBegun, Session, SessionsAgree, answers_in, numbers_in, picked, requests_in}
use Rattle.mx_serve.specs.declared.call_asked.CallAsked.{CallAsked}
use Rattle.mx_serve.specs.declared.call_asked.CallAsked.TheVariants as call
use Rattle.mx_serve.proofs.Growing.{bytes-longer, one_exchange, within}
use Rattle.mx_serve.proofs.Picking.{picked_rise}

module _ (site : Site) (stops : Stops) (all : Histories) where
  turns_longer : (seen : Histories) → Grows seen all → (before : Counts) (calls : List Call) (marks : List Mark)
      → AreTurns site stops seen before calls marks → AreTurns site stops all before calls marks
  turns_longer seen grows before [] [] h =
      let up = longer site stops seen all grows in
      record { events = omega (arith, h.events, up.events); receipts = omega (arith, h.receipts, up.receipts); accounts = omega (arith, h.accounts, up.accounts) }
  turns_longer seen grows before (c ∷ calls) (m ∷ marks) h =
      (one_exchange site stops seen all before c m h.0 grows (within site stops seen (counts m) calls marks h.1), turns_longer seen grows (counts m) calls marks h.1)
  turns_longer seen grows before (c ∷ calls) [] h = absurd h
  turns_longer seen grows before [] (m ∷ marks) h = absurd h

  answered : (c : Session) → IsBegun site stops all c → IsAnsweredOn site stops all c
  answered c is = record {
    turns = turns_longer c.seen is.begins c.before c.calls c.marks is.turns;
    bytes = λ limit. bytes-longer site stops limit c.seen all c.before 0 c.calls c.marks is.turns is.begins;
  }

  all_answered : (cs : List Session) → AllByRecursion (IsBegun site stops all) cs → AllByRecursion (IsAnsweredOn site stops all) cs
  all_answered [] is = tt
  all_answered (c ∷ cs) is = (answered c is.0, all_answered cs is.1)

  one : (asks : CallAsked) (m : Mark) (rs : List Request) (ans : List Answered) → AreAnswers site all rs ans
      → AreAnswers site all (with_request asks rs) (with_answer site all asks m ans)
  one call.Options m rs ans rest = rest
  one call.Versions m rs ans rest = rest
  one (call.Refused r) m rs ans rest = rest
  one (call.Request r) m rs ans rest = (refl, rest)

  none_left : (rs : List Request) → AreAnswers site all rs []
  none_left [] = tt
  none_left (r ∷ rs) = tt

  are_answers : (calls : List Call) (marks : List Mark) → AreAnswers site all (requests_of site.users calls) (answers_of site all calls marks)
  are_answers [] marks = tt
  are_answers (c ∷ calls) [] = none_left (with_request (call_asked site.users c) (requests_of site.users calls))
  are_answers (c ∷ calls) (m ∷ marks) = one (call_asked site.users c) m (requests_of site.users calls) (answers_of site all calls marks) (are_answers calls marks)

pub sessions_agree : SessionsAgree
sessions_agree site stops all cs begun lawful =
    let answered = all_answered site stops all cs begun in
    record {
      answered = answered;
      agree = λ calls marks. law.clients_agree site all (requests_of site.users calls) (answers_of site all calls marks) (are_answers site stops all calls marks) lawful;
      follow = λ picks ordered. let xs = picked cs picks in
          law.followers_agree site all (numbers_in site.users xs) (requests_in site.users xs) (answers_in site all xs)
          (are_answers site stops all (map (λ (x : Exchanged). x.call) xs) (map (λ (x : Exchanged). x.mark) xs)) (picked_rise site stops all cs answered picks ordered) lawful;
      redact = λ calls marks. law.clients_redact site all (requests_of site.users calls) (answers_of site all calls marks) (are_answers site stops all calls marks) lawful;
      see = λ calls marks. law.clients_see site all (requests_of site.users calls) (answers_of site all calls marks) (are_answers site stops all calls marks) lawful;
    }
