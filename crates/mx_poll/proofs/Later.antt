-- A read that was answered at a later look.
use Rattle.std.proofs.Common.{◌≡◌, ℕ, ◌∙◌, ap, subst, sym, arith, refl}
use Rattle.mx_core.proofs.Histories.{begins_self, begins_trans}
use Rattle.mx_ask.specs.declared.said.Said.{Said}
use Rattle.mx_fold.specs.Lists.{Grows, Histories, Lists}
use Rattle.mx_writers.specs.declared.gate.Gate.{Ghosts}
use Rattle.mx_engine.specs.Outer.{EntryFolds, EntryPlacing, EventFolds, EventPlacing, ReceiptFolds, ReceiptPlacing}
use Rattle.mx_engine.specs.Acts.Acts.{Act, Reads}
use Rattle.mx_engine.specs.Answers.{IsDone, Stops}
use Rattle.mx_engine.specs.Shown.{HasLooked, IsDoneBy, KeepsAll, LooksOn, Ties, made_of, stops_of, stores_of}
use Rattle.mx_engine.specs.declared.answered.Answered.{Answered}
use Rattle.mx_engine.specs.declared.held.Engine.{Engine}
use Rattle.mx_engine.specs.declared.held.EnginePass.{EnginePass}
use Rattle.mx_poll.specs.Polls.{HasLookedOn, IsDue, IsWaitedBy, said_of}
use Rattle.mx_poll.specs.declared.states.SyncPoll.{SyncPoll}

pub grows_on : (old mid new : Histories) → Grows old mid → Grows mid new → Grows old new
grows_on old mid new g h = record {
  events = begins_trans old.events mid.events new.events g.events h.events;
  receipts = begins_trans old.receipts mid.receipts new.receipts g.receipts h.receipts;
  accounts = begins_trans old.accounts mid.accounts new.accounts g.accounts h.accounts;
}

pub grows_none : (h : Histories) → Grows h h
grows_none h = record { events = begins_self h.events; receipts = begins_self h.receipts; accounts = begins_self h.accounts }

looks_some : (old mid new : EnginePass) → LooksOn old mid → HasLooked mid new → LooksOn old new
looks_some old mid new on h = record { events = omega (arith, on.events, h.events); receipts = omega (arith, on.receipts, h.receipts); accounts = omega (arith, on.accounts, h.accounts) }

pub looks_none : (p : EnginePass) → LooksOn p p
looks_none p = record { events = omega (arith); receipts = omega (arith); accounts = omega (arith) }

pub looked_on : (old mid new : EnginePass) → HasLooked old mid → LooksOn mid new → HasLooked old new
looked_on old mid new h on = record { events = omega (arith, on.events, h.events); receipts = omega (arith, on.receipts, h.receipts); accounts = omega (arith, on.accounts, h.accounts) }

-- the pass keeps another waker before and after it
kept_looks : (old mid new last : EnginePass) → KeepsAll old mid → KeepsAll new last → LooksOn mid new → LooksOn old last
kept_looks old mid new last first second on =
    let begun : LooksOn (record old { flag = mid.flag; tickets = mid.tickets }) new = subst (λ p. LooksOn p new) first on in
    let from : LooksOn old new = record { events = begun.events; receipts = begun.receipts; accounts = begun.accounts } in
    subst (LooksOn old) (sym second) (record { events = from.events; receipts = from.receipts; accounts = from.accounts })

-- what was read and is answered after more was seen before it
pub done_on : (stops : Stops) (reads : Lists → Said) (old mid new : Histories) (a : Answered) → Grows old mid → IsDone stops (Reads reads) mid new a → IsDone stops (Reads reads) old new a
done_on stops reads old mid new a g d = record { seen = d.seen; begins = grows_on old mid new g d.begins; said_is = d.said_is; keeps = d.keeps }

module _ {G Ev Re Ac : Type 0} {g : Ghosts G} {fe : EventFolds Ev} {pe : EventPlacing} {fr : ReceiptFolds Re} {pr : ReceiptPlacing} {fa : EntryFolds Ac} {pa : EntryPlacing} (e : Engine G Ev Re Ac g fe pe fr pr fa pa) where
  -- looks by which nothing was stored
  pub record HasWaitedOn (old new : EnginePass) : Type 0 where
    pub ties : Ties e new
    pub grows : Grows (stores_of old) (stores_of new)
    pub made : made_of new ≡ made_of old
    pub looks : LooksOn old new

  pub waits_none : (p : EnginePass) → Ties e p → HasWaitedOn p p
  waits_none p ties = record {
    ties = ties;
    grows = grows_none _;
    made = refl;
    looks = record { events = omega (arith); receipts = omega (arith); accounts = omega (arith) };
  }

  -- one more look
  pub waits_more : (old mid new : EnginePass) → HasWaitedOn old mid → HasLookedOn e mid new → HasWaitedOn old new
  waits_more old mid new h d = record {
    ties = d.ties;
    grows = grows_on (stores_of old) (stores_of mid) (stores_of new) h.grows d.grows;
    made = d.made ∙ h.made;
    looks = looks_some old mid new h.looks d.looks;
  }

  -- the last one
  pub waited_by : (reads : Lists → Said) (now : ℕ) (old mid new : EnginePass) (a : Answered) → HasWaitedOn old mid → IsDoneBy e now (Reads reads) mid new a → IsWaitedBy e (Reads reads) old new a
  waited_by reads now old mid new a h d = record {
    ties = d.ties;
    done = done_on (stops_of e) reads (stores_of old) (stores_of mid) (stores_of new) a h.grows d.done;
    made = d.made ∙ h.made;
    looks = looks_some old mid new h.looks d.looks;
  }

  -- the pass keeps another waker
  pub kept_ties : (old new : EnginePass) → KeepsAll old new → Ties e old → Ties e new
  kept_ties old new same h = subst (Ties e) (sym same) (record { events = h.events; receipts = h.receipts; accounts = h.accounts; known = h.known })

  -- the same between two such changes
  pub waited_kept : (act : Act) (old mid new last : EnginePass) (a : Answered) → KeepsAll old mid → KeepsAll new last → IsWaitedBy e act mid new a → IsWaitedBy e act old last a
  waited_kept act old mid new last a first second h = record {
    ties = kept_ties new last second h.ties;
    done = subst (λ s. IsDone (stops_of e) act (stores_of old) s a) (sym (ap stores_of second)) (subst (λ s. IsDone (stops_of e) act s (stores_of new) a) (ap stores_of first) h.done);
    made = ap made_of second ∙ h.made ∙ ap made_of first;
    looks = kept_looks old mid new last first second h.looks;
  }

  -- nothing was looked at
  pub waited_none : (act : Act) (old new : EnginePass) (a : Answered) → KeepsAll old new → Ties e old → IsDone (stops_of e) act (stores_of new) (stores_of new) a → IsWaitedBy e act old new a
  waited_none act old new a same ties done = record {
    ties = kept_ties old new same ties;
    done = subst (λ s. IsDone (stops_of e) act s (stores_of new) a) (ap stores_of same) done;
    made = ap made_of same;
    looks = subst (LooksOn old) (sym same) (record { events = omega (arith); receipts = omega (arith); accounts = omega (arith) });
  }

-- the same is asked
pub same_twice : (p q r : SyncPoll) → q ≡ record p { empty_at = q.empty_at } → r ≡ record q { empty_at = r.empty_at } → r ≡ record p { empty_at = r.empty_at }
same_twice p q r first second = second ∙ ap (λ (s : SyncPoll). record s { empty_at = r.empty_at }) first

pub same_said : (p q : SyncPoll) → q ≡ record p { empty_at = q.empty_at } → said_of q ≡ said_of p
same_said p q is = ap (λ (s : SyncPoll). said_of s) is

pub same_due : (p q : SyncPoll) (now : ℕ) (told : Said) → q ≡ record p { empty_at = q.empty_at } → IsDue q now told → IsDue p now told
same_due p q now told is due = subst (λ (s : SyncPoll). IsDue s now told) is due
