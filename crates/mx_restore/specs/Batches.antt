-- The lines of a journal as they are read, a batch at a time.
use Rattle.std.specs.Prelude.{◌≡◌, ℕ, ◌<◌, false, List, [], ◌∷◌, ◌++◌, Err, Ok, Option, codes, length, take}
use Rattle.std.specs.Io.KnownBytes.{Consumes}
use Rattle.mx_event.specs.Kinds.{is_text}
use Rattle.mx_json.specs.Reading.{read_json}
use Rattle.mx_json.specs.declared.fault.JsonFault.{JsonFault}
use Rattle.mx_json.specs.declared.value.Json.{Json}
use Rattle.mx_lines.specs.First.{IsWrong}
use Rattle.mx_lines.specs.Lines.{IsOpen, file_of, line}
use Rattle.mx_restore.specs.Said.{Says, name_of}
use Rattle.mx_restore.specs.declared.reading.LineSaid.{LineSaid}
use Rattle.mx_restore.specs.declared.reading.LineSaid.TheVariants as line_said
use Rattle.mx_restore.specs.declared.reading.ReadLine.{ReadLine}
use Rattle.mx_restore.specs.declared.reading.Stopped.{Stopped}
use Rattle.mx_restore.specs.declared.reading.Stopped.TheVariants as stop
use Rattle.mx_restore.specs.declared.wrong.Wrong.{Wrong}
use Rattle.mx_restore.specs.declared.wrong.Wrong.TheVariants as wrong

-- a value has no name of a first line, and none of devices
abbrev pub IsUnnamed : Json → Type 0
IsUnnamed j = (is_text (codes "mxsync") (name_of j) ≡ false) × (is_text (codes "devices") (name_of j) ≡ false)

-- what a line of this value says
abbrev pub IsSaidBy : Json → LineSaid → Type 0
IsSaidBy j (line_said.Store r) = Says j r × IsUnnamed j
IsSaidBy j (line_said.Other v) = j ≡ v

-- a line that was read is the line of a text, and says what this does
abbrev pub IsLineOf : List ℕ → ReadLine → Type 0
IsLineOf text l = IsOpen text × (l.bytes.items ≡ line text) × ((j : Json) × (read_json text ≡ Ok j) × IsSaidBy j l.said)

-- lines are those of these texts, in their order
abbrev pub AreLinesOf : List (List ℕ) → List ReadLine → Type 0
AreLinesOf [] [] = Unit {0}
AreLinesOf (t ∷ ts) (l ∷ ls) = IsLineOf t l × AreLinesOf ts ls
AreLinesOf ts ls = ⊥

-- the line at the front of bytes was read besides others
abbrev pub ReadsOne : List ℕ → List ℕ → List ReadLine → List ReadLine → Type 0
ReadsOne bytes behind old new = (text : List ℕ) × (bytes ≡ line text ++ behind) × (l : ReadLine) × (new ≡ old ++ l ∷ []) × IsLineOf text l

-- the lines before a rest were read besides others
pub record HasRead (bytes rest : List ℕ) (old new : List ReadLine) : Type 0 where
  pub texts : List (List ℕ)
  pub whole : bytes ≡ file_of texts ++ rest
  pub lines : List ReadLine
  pub added : new ≡ old ++ lines
  pub are : AreLinesOf texts lines

-- bytes were taken from a log behind others, and the lines before a rest of them all were read
pub record HasReadMore (old new : Option (List ℕ)) (bytes rest : List ℕ) (before after : List ReadLine) : Type 0 where
  pub piece : List ℕ
  pub taken : Consumes old new piece
  pub read : HasRead (bytes ++ piece) rest before after

-- the line at the front of bytes has a text that is no JSON value
pub record IsNoJson (bytes : List ℕ) : Type 0 where
  pub text : List ℕ
  pub behind : List ℕ
  pub is : bytes ≡ line text ++ behind
  pub text_open : IsOpen text
  pub fault : JsonFault
  pub refused : read_json text ≡ Err fault

-- no line ends in the first 67,108,864 bytes and one
abbrev pub IsLong : List ℕ → Type 0
IsLong bytes = (67108864 < length bytes) × IsOpen (take 67108865 bytes)

-- what is wrong at the front of bytes, as far as it is found without the stores before
abbrev pub IsMisread : Wrong → List ℕ → Type 0
IsMisread wrong.Check bytes = IsWrong bytes
IsMisread wrong.Long bytes = IsLong bytes
IsMisread wrong.Text bytes = IsNoJson bytes
IsMisread other bytes = ⊥

-- why a text isn't read
abbrev pub StopsText : Stopped → List ℕ → Type 0
StopsText (stop.Wrong wrong.Text) text = (fault : JsonFault) × (read_json text ≡ Err fault)
StopsText (stop.Memory refused) text = Unit {0}
StopsText other text = ⊥

-- why the line at the front of bytes isn't read
abbrev pub StopsHere : Stopped → List ℕ → Type 0
StopsHere stop.Open bytes = IsOpen bytes
StopsHere stop.End bytes = ⊥
StopsHere (stop.Wrong w) bytes = IsMisread w bytes
StopsHere stop.Failed bytes = ⊥
StopsHere (stop.Memory refused) bytes = Unit {0}

-- why no more of a log's lines are read, where these bytes are left
abbrev pub StopsAt : Stopped → List ℕ → Type 0
StopsAt stop.Open bytes = IsOpen bytes
StopsAt stop.End bytes = IsOpen bytes
StopsAt (stop.Wrong w) bytes = IsMisread w bytes
StopsAt stop.Failed bytes = Unit {0}
StopsAt (stop.Memory refused) bytes = Unit {0}
