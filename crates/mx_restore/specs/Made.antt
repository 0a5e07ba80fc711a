-- Lines whose stores are made again, and how far a journal was so read.
use Rattle.std.specs.Prelude.{◌≡◌, ◌<◌, ◌^◌, ℕ, List, [], ◌∷◌, ◌++◌, if◌then◌else◌, Option, Some, Result, Ok, Err, codes, length, unwrap_or}
use Rattle.std.specs.List.{AllByRecursion}
use Rattle.mx_event.specs.Kinds.{is_text}
use Rattle.mx_fold.specs.Lists.{Histories}
use Rattle.mx_ids.specs.declared.users.Users.{Users}
use Rattle.mx_json.specs.Reading.{read_json}
use Rattle.mx_json.specs.declared.fault.JsonFault.{JsonFault}
use Rattle.mx_json.specs.declared.value.Json.{Json}
use Rattle.mx_lines.specs.Lines.{IsOpen, file_of}
use Rattle.mx_restore.specs.Batches.{AreLinesOf, IsSaidBy}
use Rattle.mx_restore.specs.Heads.{devices_in}
use Rattle.mx_restore.specs.Said.{name_of}
use Rattle.mx_restore.specs.Restored.{HaveMade, TakesValue, counted}
use Rattle.mx_restore.specs.declared.reading.ReadLine.{ReadLine}
use Rattle.mx_restore.specs.declared.reading.Stopped.{Stopped}
use Rattle.mx_restore.specs.declared.reading.Stopped.TheVariants as stop
use Rattle.mx_restore.specs.declared.restoring.Restored.{Restored}
use Rattle.mx_restore.specs.declared.wrong.RestoreFault.{RestoreFault}
use Rattle.mx_restore.specs.declared.wrong.RestoreFault.TheVariants as faults

-- how many devices are known behind a value, and behind texts
abbrev pub devices_by : Users → ℕ → Json → ℕ
devices_by users from j = if is_text (codes "devices") (name_of j) then counted from (unwrap_or (devices_in users from j) 0) else from

abbrev pub devices_read : Users → ℕ → Result Json JsonFault → ℕ
devices_read users from (Ok j) = devices_by users from j
devices_read users from (Err fault) = from

abbrev pub devices_after : Users → ℕ → List (List ℕ) → ℕ
devices_after users from [] = from
devices_after users from (t ∷ ts) = devices_after users (devices_read users from (read_json t)) ts

-- a line's store was made again, or it says none, and it was counted
pub record MakesLine (users : Users) (line : ReadLine) (before after : Restored) (old new : Histories) : Type 0 where
  pub taken : (j : Json) → IsSaidBy j line.said → TakesValue j old new
  pub bytes : after.bytes ≡ counted before.bytes (length line.bytes.items)
  pub lines : after.lines ≡ counted before.lines 1
  pub devices : (j : Json) → IsSaidBy j line.said → after.devices ≡ devices_by users before.devices j

-- the stores that texts say were made again, and their lines were counted
pub record HasMade (users : Users) (texts : List (List ℕ)) (before after : Restored) (old new : Histories) : Type 0 where
  pub made : HaveMade texts old new
  pub bytes : before.bytes < 2 ^ 64 → after.bytes ≡ counted before.bytes (length (file_of texts))
  pub lines : before.lines < 2 ^ 64 → after.lines ≡ counted before.lines (length texts)
  pub devices : after.devices ≡ devices_after users before.devices texts

-- the same of lines that were read
abbrev pub MakesLines : Users → List ReadLine → Restored → Restored → Histories → Histories → Type 0
MakesLines users lines before after old new = (texts : List (List ℕ)) → AreLinesOf texts lines → HasMade users texts before after old new

-- nothing was read
abbrev pub no_lines : Restored
no_lines = record { bytes = 0; lines = 0; devices = 0 }

-- the stores of the lines before a rest of bytes were made again
pub record HasTaken (users : Users) (bytes rest : List ℕ) (after : Restored) (old new : Histories) : Type 0 where
  pub texts : List (List ℕ)
  pub whole : bytes ≡ file_of texts ++ rest
  pub texts_open : AllByRecursion IsOpen texts
  pub made : HasMade users texts no_lines after old new

-- of the bytes of a log the stores of the lines before a rest were made again, and behind this rest stand those that are left
pub record IsFarIn (users : Users) (all : List ℕ) (left : Option (List ℕ)) (rest : List ℕ) (far : Restored) (old new : Histories) : Type 0 where
  pub more : List ℕ
  pub is_left : left ≡ Some more
  pub taken : HasTaken users all (rest ++ more) far old new

-- the same where the log tells its bytes
pub record IsFar (users : Users) (told left : Option (List ℕ)) (rest : List ℕ) (far : Restored) (old new : Histories) : Type 0 where
  pub each : (all : List ℕ) → told ≡ Some all → IsFarIn users all left rest far old new

-- the same, where between those lines and the rest lines were read whose stores aren't made yet
pub record IsAhead (users : Users) (told left : Option (List ℕ)) (lines : List ReadLine) (rest : List ℕ) (far : Restored) (old new : Histories) : Type 0 where
  pub texts : List (List ℕ)
  pub are : AreLinesOf texts lines
  pub far_is : IsFar users told left (file_of texts ++ rest) far old new

-- what a start comes to where the stores of all lines that were read are made, and no more are read for this cause
abbrev pub ended_at : Restored → Stopped → Result Restored RestoreFault
ended_at far stop.Open = Ok far
ended_at far stop.End = Ok far
ended_at far (stop.Wrong w) = Err (faults.Line (counted far.lines 1) w)
ended_at far stop.Failed = Err faults.Failed
ended_at far (stop.Memory refused) = Err (faults.Memory refused)
