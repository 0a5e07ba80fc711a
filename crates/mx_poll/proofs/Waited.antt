-- A request that was answered at once, and a sync that waited.
use Rattle.std.proofs.Common.{◌≡◌, ℕ, ◌+◌, ◌≤◌, Bool, false, Option, None, Some, refl, sym, subst, ◌∙◌}
use Rattle.mx_ask.specs.declared.said.Said.{Said}
use Rattle.mx_fold.specs.Lists.{Lists}
use Rattle.mx_writers.specs.declared.gate.Gate.{Ghosts}
use Rattle.mx_engine.specs.Outer.{EntryFolds, EntryPlacing, EventFolds, EventPlacing, ReceiptFolds, ReceiptPlacing}
use Rattle.mx_ask.specs.declared.ask.Ask.{Ask}
use Rattle.mx_ask.specs.declared.ask.Ask.TheVariants as ask
use Rattle.mx_ask.specs.declared.ask.Who.{Who}
use Rattle.mx_engine.specs.Acts.Acts.{Reads, asked}
use Rattle.mx_engine.specs.Acts.Reads as told
use Rattle.mx_engine.specs.Answers.{IsAnswered, IsDone, made_for}
use Rattle.mx_engine.specs.Shown.{LooksFor, made_of, site_of, stops_of, stores_of}
use Rattle.mx_engine.specs.declared.answered.Answered.{Answered}
use Rattle.mx_engine.specs.declared.held.Engine.{Engine}
use Rattle.mx_engine.specs.declared.held.EnginePass.{EnginePass}
use Rattle.mx_poll.specs.Polls.{IsAnsweredBy, IsDue, IsWaitedBy, IsWaiting, said_of}
use Rattle.mx_poll.specs.Waits.{HasWaited, Waits, tells_nothing}
use Rattle.mx_poll.specs.declared.states.SyncPoll.{SyncPoll}
use Rattle.mx_poll.proofs.Later.{done_on, looked_on}

module _ {G Ev Re Ac : Type 0} {g : Ghosts G} {fe : EventFolds Ev} {pe : EventPlacing} {fr : ReceiptFolds Re} {pr : ReceiptPlacing} {fa : EntryFolds Ac} {pa : EntryPlacing} (e : Engine G Ev Re Ac g fe pe fr pr fa pa) (who : Who) (a : Ask) (now : ℕ) where
  module _ (old new : EnginePass) (r : Answered) (h : IsAnsweredBy e now who a old new r) where
    pub at_once_answered : IsAnswered (site_of e) (stops_of e) r.mark.now who a (stores_of old) (stores_of new) r
    at_once_answered = subst (λ n. IsAnswered (site_of e) (stops_of e) n who a (stores_of old) (stores_of new) r) (sym h.now_is) h.answered

    pub at_once_made : made_of new ≡ made_for (asked (site_of e) r.mark.now who a) r.mark (made_of old)
    at_once_made = subst (λ n. made_of new ≡ made_for (asked (site_of e) n who a) r.mark (made_of old)) (sym h.now_is) h.made

    pub at_once_waited : HasWaited a now r.mark.now r.said
    at_once_waited = subst (λ n. HasWaited a now n r.said) (sym h.now_is) h.waited

  module _ (old mid new : EnginePass) (p : SyncPoll) (timeout : ℕ) (is : a ≡ ask.Sync (Some p.since) p.filter false p.after timeout) (w : IsWaiting e now who (now + timeout) old mid p)
      (r : Answered) (d : IsWaitedBy e (Reads (said_of p)) mid new r) where
    by_user : IsDone (stops_of e) (Reads (λ (l : Lists). told.sync_said l who.user (Some p.since) p.filter false p.after)) (stores_of old) (stores_of new) r
    by_user =
        subst (λ u. IsDone (stops_of e) (Reads (λ (l : Lists). told.sync_said l u (Some p.since) p.filter false p.after)) (stores_of old) (stores_of new) r) w.user
        (done_on (stops_of e) (said_of p) (stores_of old) (stores_of mid) (stores_of new) r w.looked.grows d.done)

    pub later_answered : IsAnswered (site_of e) (stops_of e) r.mark.now who a (stores_of old) (stores_of new) r
    later_answered = subst (λ x. IsDone (stops_of e) (asked (site_of e) r.mark.now who x) (stores_of old) (stores_of new) r) (sym is) by_user

    pub later_made : made_of new ≡ made_for (asked (site_of e) r.mark.now who a) r.mark (made_of old)
    later_made = subst (λ x. made_of new ≡ made_for (asked (site_of e) r.mark.now who x) r.mark (made_of old)) (sym is) (d.made ∙ w.looked.made)

    pub later_looks : LooksFor a old new
    later_looks = subst (λ x. LooksFor x old new) (sym is) (looked_on old mid new w.looked.looks d.looks)

    pub later_waited : IsDue p r.mark.now r.said → HasWaited a now r.mark.now r.said
    later_waited due =
        subst (λ x. HasWaited x now r.mark.now r.said) (sym is)
        ((λ may empty. subst (λ n. n ≤ r.mark.now) w.deadline_is (due empty)), (λ may. absurd cc))

-- ---- where something is told

-- what tells something may be told in the place of what was told
pub waits_told : (sync : Option (Bool × ℕ)) (now last : ℕ) (told other : Said) → tells_nothing other ≡ false → Waits sync now last told → Waits sync now last other
waits_told None now last told other tells h = h
waits_told (Some sync) now last told other tells h = ((λ may empty. absurd cc), h.1)

-- and at once
pub waits_none : (sync : Option (Bool × ℕ)) (now : ℕ) (told : Said) → tells_nothing told ≡ false → Waits sync now now told
waits_none None now told tells = refl
waits_none (Some sync) now told tells = ((λ may empty. absurd cc), λ may. refl)
