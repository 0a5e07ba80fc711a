-- A sync that rests on a pass of an engine.
use Rattle.mx_fold.specs.Lists.{lists_of}
use Rattle.mx_writers.specs.declared.gate.Gate.{Ghosts}
use Rattle.mx_engine.specs.Outer.{EntryFolds, EntryPlacing, EventFolds, EventPlacing, ReceiptFolds, ReceiptPlacing}
use Rattle.mx_engine.specs.Shown.{Ties, stores_of}
use Rattle.mx_engine.specs.declared.held.Engine.{Engine}
use Rattle.mx_poll.specs.Polls.{IsPolled}
use Rattle.bench_engine.specs.declared.rests.Resting.{Resting}

pub record RestsOn {G Ev Re Ac : Type 0} {g : Ghosts G} {fe : EventFolds Ev} {pe : EventPlacing} {fr : ReceiptFolds Re} {pr : ReceiptPlacing} {fa : EntryFolds Ac} {pa : EntryPlacing} (e : Engine G Ev Re Ac g fe pe fr pr fa pa) (r : Resting) : Type 0 where
  pub ties : Ties e r.pass
  pub polled : IsPolled r.waiting (lists_of (stores_of r.pass))
