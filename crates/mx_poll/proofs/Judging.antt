-- What is judged after a look, over plain values.
use Rattle.std.proofs.Common.{◌≡◌, if◌then◌else◌, ℕ, ◌<◌, ◌≤◌, ◌&&◌, Bool, true, false, Some, List, nat_lt, refl, sym, ap, subst, ◌∙◌, arith}
use Rattle.std.proofs.lemmas.Bool.{and_parts, ltb-false, ltb-true}
use Rattle.mx_ids.specs.Memory.{refused_memory}
use Rattle.mx_ids.specs.declared.sync_token.SyncToken.{SyncToken}
use Rattle.mx_fold.specs.Lists.{Grows, Histories, Lists, fronts_of, lists_of}
use Rattle.mx_writers.specs.declared.gate.Gate.{Ghosts}
use Rattle.mx_engine.specs.Outer.{EntryFolds, EntryPlacing, EventFolds, EventPlacing, ReceiptFolds, ReceiptPlacing}
use Rattle.mx_ask.specs.declared.ask.FilterAsk.{FilterAsk}
use Rattle.mx_ask.specs.declared.ask.Who.{Who}
use Rattle.mx_ask.specs.declared.said.Said.{Said}
use Rattle.mx_ask.specs.declared.said.Said.TheVariants as said
use Rattle.mx_engine.specs.Acts.Acts.{Reads}
use Rattle.mx_engine.specs.Acts.Reads as told
use Rattle.mx_engine.specs.Answers.{IsDone, Stops}
use Rattle.mx_engine.specs.Shown.{HasLooked, Ties, known_of, made_of, stops_of, stores_of}
use Rattle.mx_engine.specs.declared.answered.Answered.{Answered}
use Rattle.mx_engine.specs.declared.held.Engine.{Engine}
use Rattle.mx_engine.specs.declared.held.EnginePass.{EnginePass}
use Rattle.mx_engine.specs.Still.Concerns.{is_still}
use Rattle.mx_wait.specs.Parked.{AreWhole}
use Rattle.mx_wait.specs.declared.parking.Tickets.{Tickets}
use Rattle.mx_poll.specs.Polls.{HasLookedOn, IsBegunBy, IsJudged, IsPolled, IsPolledBy, said_of}
use Rattle.mx_poll.specs.Waits.{tells_nothing}
use Rattle.mx_poll.specs.declared.states.Begun.TheVariants as begun
use Rattle.mx_poll.specs.declared.states.Polled.{Polled}
use Rattle.mx_poll.specs.declared.states.Polled.TheVariants as polled
use Rattle.mx_poll.specs.declared.states.Seen.{Seen}
use Rattle.mx_poll.specs.declared.states.SyncPoll.{SyncPoll}
use Rattle.mx_poll.proofs.Later.{done_on, grows_none}
use Rattle.mx_poll.proofs.Standing.{accounts_stand, events_stand, receipts_stand}
use Rattle.mx_poll.proofs.Staying.{polled_now, still_told}

-- what was answered with nothing is what is told over the lists
told_empty : (stops : Stops) (reads : Lists → Said) (old new : Histories) (a : Answered) → IsDone stops (Reads reads) old new a → tells_nothing a.said ≡ true
    → tells_nothing (reads (lists_of new)) ≡ true
told_empty stops reads old new a done empty = by a.mark.memory (sym (ap tells_nothing done.said_is) ∙ empty) where
  by : (b : Bool) → tells_nothing (if b then (said.NoMemory refused_memory) else reads (lists_of new)) ≡ true → tells_nothing (reads (lists_of new)) ≡ true
  by true h = absurd cc
  by false h = h

not_both : (b : Bool) → b ≡ false → b ≡ true → {P : Type 0} → P
not_both b f t = absurd (true_false (sym t ∙ f)) where
  true_false : true ≡ false → ⊥
  true_false h = absurd cc

module _ (p : SyncPoll) (now : ℕ) (seen : Seen) (pass : EnginePass) (known : known_of pass ≡ lists_of (stores_of pass)) (at : seen.at ≡ fronts_of (lists_of (stores_of pass))) where
  -- nothing came that concerns the user
  pub judged_still : IsPolled p (lists_of (stores_of pass)) → (nat_lt now p.deadline && is_still p.user (known_of pass) p.empty_at) ≡ true
      → IsJudged (record p { empty_at = seen.at }) now seen pass (polled.Pending (record { seen = seen; now = now }))
  judged_still polled both =
      let parts = and_parts (nat_lt now p.deadline) (is_still p.user (known_of pass) p.empty_at) both in (
        refl,
        still_told p (lists_of (stores_of pass)) (events_stand pass) (receipts_stand pass) (accounts_stand pass) polled
            (ap (λ (l : Lists). is_still p.user l p.empty_at) (sym known) ∙ parts.1),
        ltb-true now p.deadline parts.0,
        at,
      )

  module _ (stops : Stops) (a : Answered) (done : (stops : Stops) (old : Histories) → Grows old (stores_of pass) → IsDone stops (Reads (said_of p)) old (stores_of pass) a) where
    -- the whole reply is empty
    pub judged_empty : (nat_lt now p.deadline && tells_nothing a.said) ≡ true → IsJudged (record p { empty_at = seen.at }) now seen pass (polled.Pending (record { seen = seen; now = now }))
    judged_empty both =
        let parts = and_parts (nat_lt now p.deadline) (tells_nothing a.said) both in
        (refl, told_empty stops (said_of p) (stores_of pass) (stores_of pass) a (done stops (stores_of pass) (grows_none (stores_of pass))) parts.1, ltb-true now p.deadline parts.0, at)

  -- it is answered
  pub judged_done : (a : Answered) → ((stops : Stops) (old : Histories) → Grows old (stores_of pass) → IsDone stops (Reads (said_of p)) old (stores_of pass) a) → a.mark.now ≡ now
      → (nat_lt now p.deadline && tells_nothing a.said) ≡ false → IsJudged p now seen pass (polled.Done a)
  judged_done a done is both = ((λ stops. done stops (stores_of pass) (grows_none (stores_of pass))), is, λ empty. due (nat_lt now p.deadline) refl (ap (λ b. nat_lt now p.deadline && b) (sym empty) ∙ both)) where
    due : (b : Bool) → nat_lt now p.deadline ≡ b → (b && true) ≡ false → p.deadline ≤ now
    due true is h = absurd cc
    due false is h = omega (arith, ltb-false now p.deadline is)

module _ {G Ev Re Ac : Type 0} {g : Ghosts G} {fe : EventFolds Ev} {pe : EventPlacing} {fr : ReceiptFolds Re} {pr : ReceiptPlacing} {fa : EntryFolds Ac} {pa : EntryPlacing} (e : Engine G Ev Re Ac g fe pe fr pr fa pa) where
  looked : (old new : EnginePass) → Ties e new → Grows (stores_of old) (stores_of new) → made_of new ≡ made_of old → HasLooked old new → HasLookedOn e old new
  looked old new ties grows made looks = record { ties = ties; grows = grows; made = made; looks = looks }

  -- what is judged is what `poll` answers
  pub polled_by : (p : SyncPoll) (now : ℕ) (tickets : Tickets) (seen : Seen) (old new : EnginePass) (r : Polled) → Ties e new → Grows (stores_of old) (stores_of new) → made_of new ≡ made_of old → HasLooked old new
      → AreWhole tickets → seen ≡ record { at = fronts_of (lists_of (stores_of new)); tickets = tickets; made = tt } → IsJudged p now seen new r → IsPolledBy e p now old new r
  polled_by p now tickets seen old new (polled.Done a) ties grows made looks whole seen_is j = (
    record { ties = ties; done = done_on (stops_of e) (said_of p) (stores_of old) (stores_of new) (stores_of new) a grows (j.0 (stops_of e)); made = made; looks = looks; now_is = j.1 },
    j.2,
  )
  polled_by p now tickets seen old new (polled.Pending parked) ties grows made looks whole seen_is j = (
    looked old new ties grows made looks,
    record {
      tickets = subst (λ (s : Seen). AreWhole s.tickets) (sym (ap (λ x. x.seen) j.0 ∙ seen_is)) whole;
      at = ap (λ x. x.seen.at) j.0 ∙ ap (λ (s : Seen). s.at) seen_is;
      empty = j.1;
      now_is = ap (λ x. x.now) j.0;
      early = j.2;
      polled = polled_now p (lists_of (stores_of new)) j.3 j.1;
    },
  )

  module _ (now : ℕ) (who : Who) (since : SyncToken) (filter : FilterAsk) (after : Bool) (deadline : ℕ) (old new : EnginePass) (ties : Ties e new) (grows : Grows (stores_of old) (stores_of new)) (made : made_of new ≡ made_of old)
      (looks : HasLooked old new) (a : Answered)
      (done : (stops : Stops) (start : Histories) → Grows start (stores_of new) → IsDone stops (Reads (λ l. told.sync_said l who.user (Some since) filter false after)) start (stores_of new) a) where
    -- there is something to tell
    pub begun_done : a.mark.now ≡ now → (b : Bool) → b ≡ tells_nothing a.said → b ≡ false → IsBegunBy e now who (Some since) filter false after deadline old new (begun.Done a)
    begun_done is b tests no_more = (
      record { ties = ties; done = done (stops_of e) (stores_of old) grows; made = made; looks = looks; now_is = is },
      λ may empty. not_both b no_more (tests ∙ empty),
    )

    -- there is nothing
    pub begun_poll : (user : List ℕ) (at : SyncToken) → user ≡ who.user → at ≡ fronts_of (known_of new) → known_of new ≡ lists_of (stores_of new) → now < deadline → (b : Bool) → b ≡ tells_nothing a.said → b ≡ true
        → IsBegunBy e now who (Some since) filter false after deadline old new (begun.Poll (record { user = user; since = since; filter = filter; after = after; deadline = deadline; empty_at = at }))
    begun_poll user at same fronts known early b tests nothing =
        let l : Lists = lists_of (stores_of new) in
        let p : SyncPoll = record { user = user; since = since; filter = filter; after = after; deadline = deadline; empty_at = at } in
        let there : tells_nothing (told.sync_said l who.user (Some since) filter false after) ≡ true =
        told_empty (stops_of e) (λ k. told.sync_said k who.user (Some since) filter false after) (stores_of old) (stores_of new) a (done (stops_of e) (stores_of old) grows) (sym tests ∙ nothing) in
        let empty : tells_nothing (said_of p l) ≡ true = ap (λ u. tells_nothing (told.sync_said l u (Some since) filter false after)) same ∙ there in (
          refl,
          refl,
          refl,
          refl,
          record {
            looked = looked old new ties grows made looks;
            user = same;
            deadline_is = refl;
            early = early;
            empty = empty;
            polled = polled_now p l (fronts ∙ ap fronts_of known) empty;
          },
        )
