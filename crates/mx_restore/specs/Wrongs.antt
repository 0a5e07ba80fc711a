-- What is wrong with a line of a journal.
use Rattle.std.specs.Prelude.{◌≡◌, ◌⊎◌, ℕ, true, false, List, ◌∷◌, ◌++◌, Option, Some, None, Ok, codes, length}
use Rattle.std.specs.List.{AllByRecursion}
use Rattle.mx_aims.specs.Asked.{Site}
use Rattle.mx_engine.specs.declared.record.Record.{Record}
use Rattle.mx_event.specs.Kinds.{is_text}
use Rattle.mx_fold.specs.Lists.{Histories}
use Rattle.mx_json.specs.Reading.{read_json}
use Rattle.mx_json.specs.declared.value.Json.{Json}
use Rattle.mx_lines.specs.First.{IsWrong}
use Rattle.mx_lines.specs.Lines.{IsOpen, file_of, line}
use Rattle.mx_restore.specs.Batches.{AreLinesOf, IsLong, IsNoJson}
use Rattle.mx_restore.specs.Heads.{devices_in, is_first_line}
use Rattle.mx_restore.specs.Made.{HasMade, devices_after}
use Rattle.mx_restore.specs.Restored.{HaveMade, counted}
use Rattle.mx_restore.specs.Said.{Says, name_of}
use Rattle.mx_restore.specs.declared.reading.ReadLine.{ReadLine}
use Rattle.mx_restore.specs.declared.restoring.Restored.{Restored}
use Rattle.mx_restore.specs.declared.wrong.RestoreFault.{RestoreFault}
use Rattle.mx_restore.specs.declared.wrong.RestoreFault.TheVariants.{Busy, Failed, Line, Memory}
use Rattle.mx_restore.specs.declared.wrong.Wrong.{Wrong}
use Rattle.mx_restore.specs.declared.wrong.Wrong.TheVariants as wrong

-- so many lines were read, and one of devices isn't what comes
abbrev pub IsStoreLine : ℕ → Json → Type 0
IsStoreLine lines j = (lines ≡ 0 → ⊥) × (is_text (codes "devices") (name_of j) ≡ false)

-- what is wrong with a line's value, behind so many lines that have so many devices. Of a store that isn't made again only this is told
abbrev pub IsWrongValue : Site → ℕ → ℕ → Json → Wrong → Type 0
IsWrongValue site lines devices j wrong.Check = ⊥
IsWrongValue site lines devices j wrong.Long = ⊥
IsWrongValue site lines devices j wrong.Head = (lines ≡ 0) × (is_first_line site.users.server site.writers j ≡ false)
IsWrongValue site lines devices j wrong.Devices = (is_text (codes "devices") (name_of j) ≡ true) × (devices_in site.users devices j ≡ None)
IsWrongValue site lines devices j wrong.Text = IsStoreLine lines j
IsWrongValue site lines devices j (wrong.Store why) = IsStoreLine lines j × ((r : Record) × Says j r)

-- why a store isn't made again behind so many lines
abbrev pub IsNoStore : ℕ → RestoreFault → Type 0
IsNoStore lines (Line n wrong.Head) = (n ≡ counted lines 1) × (lines ≡ 0)
IsNoStore lines (Line n (wrong.Store why)) = (n ≡ counted lines 1) × (lines ≡ 0 → ⊥)
IsNoStore lines (Memory refused) = Unit {0}
IsNoStore lines other = ⊥

-- why the store of a line's value isn't made again
abbrev pub IsRefused : Site → Restored → Json → RestoreFault → Type 0
IsRefused site far j Busy = ⊥
IsRefused site far j (Line number w) = (number ≡ counted far.lines 1) × IsWrongValue site far.lines far.devices j w
IsRefused site far j Failed = ⊥
IsRefused site far j (Memory refused) = Unit {0}

-- one of some texts is refused, and the stores of those before it were made again
pub record FailsAt (site : Site) (texts : List (List ℕ)) (before : Restored) (old : Histories) (number : ℕ) (w : Wrong) : Type 0 where
  pub front : List (List ℕ)
  pub text : List ℕ
  pub behind : List (List ℕ)
  pub whole : texts ≡ front ++ text ∷ behind
  pub mid : Restored
  pub lists : Histories
  pub made : HasMade site.users front before mid old lists
  pub value : Json
  pub read : read_json text ≡ Ok value
  pub number_is : number ≡ counted mid.lines 1
  pub is : IsWrongValue site mid.lines mid.devices value w

-- why the stores of lines that were read aren't made again
abbrev pub IsUnmade : Site → List ReadLine → Restored → Histories → RestoreFault → Type 0
IsUnmade site lines before old Busy = ⊥
IsUnmade site lines before old (Line number w) = (texts : List (List ℕ)) → AreLinesOf texts lines → FailsAt site texts before old number w
IsUnmade site lines before old Failed = ⊥
IsUnmade site lines before old (Memory refused) = Unit {0}

-- bytes begin with the line of a text that is refused, behind the lines of other texts
pub record IsWrongText (site : Site) (before : List (List ℕ)) (bytes : List ℕ) (w : Wrong) : Type 0 where
  pub text : List ℕ
  pub behind : List ℕ
  pub begins : bytes ≡ line text ++ behind
  pub text_open : IsOpen text
  pub value : Json
  pub read : read_json text ≡ Ok value
  pub is : IsWrongValue site (counted 0 (length before)) (devices_after site.users 0 before) value w

-- what is wrong at the front of bytes behind the lines of texts
abbrev pub IsWrongAt : Site → List (List ℕ) → List ℕ → Wrong → Type 0
IsWrongAt site before bytes wrong.Check = IsWrong bytes
IsWrongAt site before bytes wrong.Long = IsLong bytes
IsWrongAt site before bytes wrong.Text = IsNoJson bytes ⊎ IsWrongText site before bytes wrong.Text
IsWrongAt site before bytes w = IsWrongText site before bytes w

-- the line of a number is wrong, and the stores of the lines before it were made again
pub record IsWrongLine (site : Site) (bytes : List ℕ) (old : Histories) (number : ℕ) (w : Wrong) : Type 0 where
  pub texts : List (List ℕ)
  pub rest : List ℕ
  pub whole : bytes ≡ file_of texts ++ rest
  pub texts_open : AllByRecursion IsOpen texts
  pub number_is : number ≡ counted (length texts) 1
  pub lists : Histories
  pub made : HaveMade texts old lists
  pub is : IsWrongAt site texts rest w

-- where a journal's line is told to be wrong it is, where its bytes are told
abbrev pub TellsWrong : Site → Option (List ℕ) → Histories → RestoreFault → Type 0
TellsWrong site told old Busy = Unit {0}
TellsWrong site told old (Line number w) = (bytes : List ℕ) → told ≡ Some bytes → IsWrongLine site bytes old number w
TellsWrong site told old Failed = Unit {0}
TellsWrong site told old (Memory refused) = Unit {0}
