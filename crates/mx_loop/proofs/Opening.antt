-- What a request begins with, and what a sync that rests comes to.
use Rattle.std.proofs.Common.{◌≡◌, ℕ, ◌≤◌, inl, inr, List, Bool, false, Some, refl, sym, ap, ◌∙◌, subst}
use Rattle.mx_ids.specs.Memory.{refused_memory}
use Rattle.mx_fold.specs.Lists.{Histories, Lists}
use Rattle.mx_ask.specs.declared.ask.Ask.{Ask}
use Rattle.mx_ask.specs.declared.ask.Who.{Who}
use Rattle.mx_ask.specs.declared.said.Said.TheVariants as said
use Rattle.mx_engine.specs.Acts.Reads as told
use Rattle.mx_poll.specs.Acts.Acts.{Reads, asked}
use Rattle.mx_poll.specs.Aims.Asked.{Site}
use Rattle.mx_poll.specs.OfEngine.Answered.{Answered}
use Rattle.mx_poll.specs.OfEngine.Answers.{IsAnswered, Stops, counts, counts_of, reading}
use Rattle.mx_poll.specs.OfEngine.Counts.{Counts}
use Rattle.mx_poll.specs.OfEngine.Exchanges.{AtMost, first_of}
use Rattle.mx_poll.specs.OfEngine.Mark.{Mark}
use Rattle.mx_engine.specs.Answers.{IsDone}
use Rattle.mx_poll.specs.Polls.{IsDue, said_of}
use Rattle.mx_poll.specs.Waits.{HasWaited, wait_of}
use Rattle.mx_poll.specs.declared.states.SyncPoll.{SyncPoll}
use Rattle.mx_poll.proofs.OfEngine.Done.{all_self}
use Rattle.mx_poll.proofs.Waited.{waits_told}
use Rattle.mx_serve.specs.Opens.{idle_mark}
use Rattle.mx_serve.specs.Steps.{Renders, Responds}
use Rattle.mx_serve.specs.Tallies.{WaitsFor}
use Rattle.mx_serve.specs.declared.call_asked.CallAsked.{CallAsked}
use Rattle.mx_serve.specs.declared.call_asked.CallAsked.TheVariants as call
use Rattle.mx_serve.proofs.Responding.{polled_responds}
use Rattle.mx_loop.specs.Seen.{IsRestOf, RespondsSeen}
use Rattle.mx_loop.proofs.Older.{at_most_self, first_counts, seen_responds}

-- ---- where the engine isn't asked

module _ (site : Site) (stops : Stops) where
  pub opened_seen : (asks : CallAsked) (memory : Bool) (now : ℕ) (seen : Counts) (all : Histories) (m : Mark) (status : ℕ) (text : List ℕ) → AtMost seen (counts_of all)
      → m ≡ record (reading now all) { events = seen.events; receipts = seen.receipts; accounts = seen.accounts; memory = memory }
      → ((n : ℕ) (lists : Histories) → Responds site stops asks n lists lists (idle_mark memory n lists) status text × WaitsFor site lists (idle_mark memory n lists) asks n)
      → RespondsSeen site stops asks now now seen all all m status text
  opened_seen asks memory now seen all m status text within is f =
      let lists = first_of all seen in
      let c : counts_of lists ≡ seen = first_counts all seen within in
      let same : idle_mark memory now lists ≡ m =
      (λ i. record (reading now all) { events = (c i).events; receipts = (c i).receipts; accounts = (c i).accounts; memory = memory }) ∙ sym is in
      let told = subst (λ k. Responds site stops asks now lists lists k status text × WaitsFor site lists k asks now) same (f now lists) in
      let exit : seen ≡ counts m = sym (ap counts is) in
      record {
        grows = all_self all;
        within = subst (λ k. AtMost k (counts_of all)) exit within;
        responds = subst (λ k. Responds site stops asks now lists (first_of all k) m status text) exit told.0;
        waits = subst (λ k. WaitsFor site (first_of all k) m asks now) exit told.1;
      }

-- ---- what the engine answers

module _ (site : Site) (stops : Stops) (who : Who) (a : Ask) (first : ℕ) (old new : Histories) (r : Answered) (h : IsAnswered site stops r.mark.now who a old new r) (waited : HasWaited a first r.mark.now r.said) where
  told_waits : (m : Mark) (status : ℕ) (text : List ℕ) → Renders site.users.server who.device r m status text → WaitsFor site new m (call.Request (record { who = who; ask = a })) first
  told_waits m status text (inl is) =
      subst (λ n. WaitsFor site new n (call.Request (record { who = who; ask = a })) first) (sym is.0) (subst (λ s. HasWaited a first r.mark.now s) h.said_is waited)
  told_waits m status text (inr is) =
      subst (λ n. WaitsFor site new n (call.Request (record { who = who; ask = a })) first) (sym is.0)
      (waits_told (wait_of a) first r.mark.now r.said (said.NoMemory refused_memory) refl waited)

  pub told_responds : (now : ℕ) (seen : Counts) (m : Mark) (status : ℕ) (text : List ℕ) → now ≡ r.mark.now → Renders site.users.server who.device r m status text
      → RespondsSeen site stops (call.Request (record { who = who; ask = a })) first now seen old new m status text
  told_responds now seen m status text is renders =
      seen_responds site stops (record { who = who; ask = a }) first now seen old new m status text (polled_responds site stops who a now old new r m status text is h renders) (told_waits m status text renders)

-- no more is counted than was seen
pub told_within : (server : List ℕ) (device : ℕ) (a : Answered) (m : Mark) (status : ℕ) (text : List ℕ) (all : Histories) → counts a.mark ≡ counts_of all → Renders server device a m status text → AtMost (counts m) (counts_of all)
told_within server device a m status text all seen (inl is) = subst (λ c. AtMost c (counts_of all)) (sym (ap counts is.0 ∙ seen)) (at_most_self (counts_of all))
told_within server device a m status text all seen (inr is) = subst (λ c. AtMost c (counts_of all)) (sym (ap counts is.0 ∙ seen)) (at_most_self (counts_of all))

-- ---- a sync that rests

-- it asks the same after it was polled
pub rest_kept : (asks : CallAsked) (first : ℕ) (p q : SyncPoll) (device : ℕ) → q ≡ record p { empty_at = q.empty_at } → IsRestOf asks first p device → IsRestOf asks first q device
rest_kept asks first p q device is h =
    subst (λ (s : SyncPoll). IsRestOf asks first s device) (sym is)
    (record { request = h.request; timeout = h.timeout; asked = h.asked; sync = h.sync; deadline = h.deadline; user = h.user; device_is = h.device_is })

module _ (site : Site) (stops : Stops) (asks : CallAsked) (first : ℕ) (p : SyncPoll) (device : ℕ) (rest : IsRestOf asks first p device) (old new : Histories) (r : Answered) (d : IsDone stops (Reads (said_of p)) old new r) where
  rest_answered : IsAnswered site stops r.mark.now rest.request.who rest.request.ask old new r
  rest_answered =
      subst (λ x. IsDone stops (asked site r.mark.now rest.request.who x) old new r) (sym rest.sync)
      (subst (λ u. IsDone stops (Reads (λ (l : Lists). told.sync_said l u (Some p.since) p.filter false p.after)) old new r) rest.user d)

  rest_waited : IsDue p r.mark.now r.said → HasWaited rest.request.ask first r.mark.now r.said
  rest_waited due =
      subst (λ x. HasWaited x first r.mark.now r.said) (sym rest.sync)
      ((λ may empty. subst (λ n. n ≤ r.mark.now) rest.deadline (due empty)), (λ may. absurd cc))

  pub rest_responds : (now : ℕ) (seen : Counts) (m : Mark) (status : ℕ) (text : List ℕ) → now ≡ r.mark.now → IsDue p r.mark.now r.said → Renders site.users.server device r m status text
      → RespondsSeen site stops asks first now seen old new m status text
  rest_responds now seen m status text is due renders =
      subst (λ x. RespondsSeen site stops x first now seen old new m status text) (sym rest.asked)
      (told_responds site stops rest.request.who rest.request.ask first old new r rest_answered (rest_waited due) now seen m status text is
      (subst (λ n. Renders site.users.server n r m status text) rest.device_is renders))
