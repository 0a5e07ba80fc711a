-- What was made again of a journal.
use Rattle.std.specs.Prelude.{◌≡◌, ◌<◌, ◌+◌, ◌-◌, ◌^◌, ◌⊎◌, ℕ, ◌++◌, List, Option, Some, length, min}
use Rattle.mx_engine.specs.Again.{with_record, with_records}
use Rattle.mx_engine.specs.Answers.{nothing}
use Rattle.mx_engine.specs.declared.record.Record.{Record}
use Rattle.mx_fold.specs.Lists.{Histories}
use Rattle.mx_journal.specs.Kept.{HasKept, HasWhole}
use Rattle.mx_json.specs.declared.value.Json.{Json}
use Rattle.mx_lines.specs.Lines.{IsRead}
use Rattle.mx_log.specs.Logs.{Logged}
use Rattle.mx_restore.specs.Said.{IsOther, IsOtherValue, SayAll, Says, SaysText}

-- a value's store was made again, or it says none
abbrev pub TakesValue : Json → Histories → Histories → Type 0
TakesValue j old new = (IsOtherValue j × (new ≡ old)) ⊎ ((r : Record) × Says j r × (new ≡ with_record r old))

-- the same of a text
abbrev pub TakesText : List ℕ → Histories → Histories → Type 0
TakesText t old new = (IsOther t × (new ≡ old)) ⊎ ((r : Record) × SaysText t r × (new ≡ with_record r old))

-- the stores that texts say were made again, in their order
pub record HaveMade (texts : List (List ℕ)) (old new : Histories) : Type 0 where
  pub records : List Record
  pub said : SayAll texts records
  pub stores : new ≡ with_records records old

-- a count of bytes after so many more, which may stop at 2^64 - 1
abbrev pub counted : ℕ → ℕ → ℕ
counted count more = min (count + more) (2 ^ 64 - 1)

-- the stores of the whole lines of a journal were made again
pub record HasRestored (bytes : List ℕ) (old new : Histories) : Type 0 where
  pub texts : List (List ℕ)
  pub rest : List ℕ
  pub is : IsRead bytes texts rest
  pub made : HaveMade texts old new

-- the same where the source tells its bytes
abbrev pub Restores : Option (List ℕ) → Histories → Histories → Type 0
Restores told old new = (bytes : List ℕ) → told ≡ Some bytes → HasRestored bytes old new

-- an engine begins with the stores of a journal's whole lines, where its bytes are told
abbrev pub Begins : Option (List ℕ) → Histories → Type 0
Begins told lists = Restores told nothing lists

-- so many bytes are those of the whole lines, where the bytes are told and fewer than 2^64
abbrev pub CountsWhole : Option (List ℕ) → ℕ → Type 0
CountsWhole told count = (bytes : List ℕ) → told ≡ Some bytes → length bytes < 2 ^ 64 → HasWhole bytes count

-- a log that had whole lines of so many bytes has just these, and perhaps more behind them, all settled
abbrev pub GoesOn : Option Logged → ℕ → Option Logged → Type 0
GoesOn old count new = (log : Logged) → old ≡ Some log → (h : HasWhole log.bytes count) → (more : List (List ℕ)) × HasKept new (h.texts ++ more)

-- the same of a log of which nothing was read before
abbrev pub Continues : Option Logged → Option (List ℕ) → Option Logged → Type 0
Continues old left new = (log : Logged) → old ≡ Some log → left ≡ Some log.bytes → length log.bytes < 2 ^ 64
    → (count : ℕ) × (h : HasWhole log.bytes count) × (more : List (List ℕ)) × HasKept new (h.texts ++ more)
