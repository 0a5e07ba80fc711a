-- What a start of a server has of what an earlier run had seen.
use Rattle.mx_fold.specs.Lists.{Grows, Histories}
use Rattle.mx_replay.specs.Tokens.{HasOwn}
use Rattle.mx_restarts.specs.InPlace.{AreInPlace}

-- each writer's stores that a run has seen begin its stores at the start, in whatever order those of several writers stand
pub record IsKeptIn (seen begun : Histories) : Type 0 where
  pub events : HasOwn seen.events begun.events
  pub receipts : HasOwn seen.receipts begun.receipts
  pub accounts : HasOwn seen.accounts begun.accounts

-- the stores of each stream at the start stand one behind the other, from position 1 on
pub record IsInPlace (begun : Histories) : Type 0 where
  pub events : AreInPlace 1 begun.events
  pub receipts : AreInPlace 1 begun.receipts
  pub accounts : AreInPlace 1 begun.accounts

-- What a run has seen is kept at a later start, if it is at one before, and what the run from there has seen is kept.
abbrev pub KeptGoesOn : Type 0
KeptGoesOn = (seen begun later start : Histories) → IsKeptIn seen begun → Grows begun later → IsKeptIn later start → IsKeptIn seen start
