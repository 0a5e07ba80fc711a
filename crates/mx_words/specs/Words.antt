-- What the words of the command line ask.
use Rattle.std.specs.Prelude.{◌≡◌, ◌≤◌, ◌⊎◌, ℕ, Bool, false, List, [], ◌∷◌, ◌++◌, Option, Some, None, Result, Ok, Err, String, codes, if◌then◌else◌, nat_lt, option_map, string_bytes, ⊤}
use Rattle.std.specs.declared.alloc.Global.{Global}
use Rattle.std.specs.Str.{bytes_eq}
use Rattle.std.specs.Str.Parse.{digits_value, without_leading_plus}
use Rattle.clap.specs.Words.{Row, Text, fault_of, first_of, matches_of, one_of}
use Rattle.clap.specs.Kinds.{Kinds}
use Rattle.clap.specs.declared.error.kind.ErrorKind.{ErrorKind}
use Rattle.clap.specs.declared.error.kind.ErrorKind.TheVariants as kinds
use Rattle.mx_words.specs.Program.{program}
use Rattle.mx_words.specs.declared.words.Asked.{Asked}
use Rattle.mx_words.specs.declared.words.Asked.TheVariants as asked
use Rattle.mx_words.specs.declared.words.Mode.{Mode}
use Rattle.mx_words.specs.declared.words.Mode.TheVariants as mode
use Rattle.mx_words.specs.declared.words.Words.{Words}
use Rattle.mx_words.specs.declared.words.WordsFault.{WordsFault}
use Rattle.mx_words.specs.declared.words.WordsFault.TheVariants as faults

-- how a run serves: one connection over the standard input and output; connections at this address, with a thread for each; or connections
-- at this address, by sessions that few threads step
pub data Way : Type 0 where
  Pipe : Way
  Serve : Text → Way
  Loop : Text → Way

-- the name of the users file, how the program serves, the threads of a loop, the writers a stream, the connections at once, the requests of
-- each, the seconds that one may be silent, whether the program ends with its standard input, and the name of the journal
pub record Said : Type 0 where
  pub users : Text
  pub way : Way
  pub threads : ℕ
  pub workers : ℕ
  pub connections : ℕ
  pub requests : ℕ
  pub idle : ℕ
  pub until_eof : Bool
  pub journal : Option Text

-- what words ask: a run, help, or the version; or `clap` refuses them, or they make no run, and why
pub data Meaning : Type 0 where
  Says : Said → Meaning
  Help : Meaning
  Version : Meaning
  Refused : Meaning
  Wrong : Text → Meaning

-- ---- a way

-- why a mode with no address, or with one, makes no run
abbrev pub wrong_mode : Text → Text
wrong_mode word = codes "the mode is none of pipe, serve and loop: " ++ word

abbrev pub without_address : Text → Text
without_address word =
    if bytes_eq word (codes "serve") then codes "mode serve needs --listen ADDRESS"
    else if bytes_eq word (codes "loop") then codes "mode loop needs --listen ADDRESS"
    else wrong_mode word

abbrev pub with_address : Text → Text → Text
with_address word address = if bytes_eq word (codes "pipe") then codes "mode pipe takes no --listen: " ++ address else wrong_mode word

-- the way of a mode's word and the address, or why there is none
abbrev pub way_of : Text → Option Text → Result Way Text
way_of word (Some address) =
    if bytes_eq word (codes "serve") then Ok (Serve address)
    else if bytes_eq word (codes "loop") then Ok (Loop address)
    else Err (with_address word address)
way_of word None = if bytes_eq word (codes "pipe") then Ok Pipe else Err (without_address word)

-- the address of a way
abbrev pub address_in : Way → Option Text
address_in Pipe = None
address_in (Serve address) = Some address
address_in (Loop address) = Some address

-- the connections of a way where the words give no number of them
abbrev pub usual_connections : Way → ℕ
usual_connections Pipe = 64
usual_connections (Serve address) = 64
usual_connections (Loop address) = 10000

-- the most connections of a way
abbrev pub most_connections : Way → ℕ
most_connections Pipe = 1000
most_connections (Serve address) = 1000
most_connections (Loop address) = 50000

-- what is told of more connections, before the word that gives their number; more than 50,000 are refused by `clap` before
abbrev pub too_many : Way → Text
too_many Pipe = codes "mode pipe takes at most 1000 connections: "
too_many (Serve address) = codes "mode serve takes at most 1000 connections: "
too_many (Loop address) = codes "mode loop takes at most 50000 connections: "

-- ---- a run

-- the number of a decimal text, before which a plus may stand
abbrev pub number_of : Text → ℕ
number_of text = digits_value 10 (without_leading_plus text)

-- the number of an option, which has one by its default where it isn't given
abbrev pub number_in : Option Text → ℕ
number_in (Some text) = number_of text
number_in None = 0

-- the connections of a way by the word that is given, or why there are none
abbrev pub connections_of : Way → Option Text → Result ℕ Text
connections_of way (Some word) =
    if nat_lt (most_connections way) (number_of word) then Err (too_many way ++ word) else Ok (number_of word)
connections_of way None = Ok (usual_connections way)

-- whether a flag of this value is given
abbrev pub is_set : Option Text → Bool
is_set (Some text) = bytes_eq text (codes "true")
is_set None = false

-- a run by its users file, its way and its connections, and by what `clap` has of the other options
abbrev pub said_with : List Row → Text → Way → Result ℕ Text → Result Said Text
said_with rows users way (Ok connections) = Ok (record {
  users = users;
  way = way;
  threads = number_in (one_of (codes "threads") rows);
  workers = number_in (one_of (codes "workers") rows);
  connections = connections;
  requests = number_in (one_of (codes "requests") rows);
  idle = number_in (one_of (codes "idle") rows);
  until_eof = is_set (first_of (codes "until-eof") rows);
  journal = first_of (codes "journal") rows;
})
said_with rows users way (Err why) = Err why

abbrev pub said_on : List Row → Text → Result Way Text → Result Said Text
said_on rows users (Ok way) = said_with rows users way (connections_of way (first_of (codes "connections") rows))
said_on rows users (Err why) = Err why

abbrev pub said_for : List Row → Option Text → Option Text → Result Said Text
said_for rows (Some users) (Some word) = said_on rows users (way_of word (first_of (codes "listen") rows))
said_for rows (Some users) None = Err (codes "--mode is missing")
said_for rows None word = Err (codes "--users is missing")

-- what the matches of `clap` say
abbrev pub said_of : List Row → Result Said Text
said_of rows = said_for rows (first_of (codes "users") rows) (first_of (codes "mode") rows)

-- ---- all words

abbrev pub by_kind : ErrorKind → Meaning
by_kind kinds.DisplayHelp = Help
by_kind kinds.DisplayVersion = Version
by_kind other = Refused

abbrev pub by_said : Result Said Text → Meaning
by_said (Ok said) = Says said
by_said (Err why) = Wrong why

-- what is asked, by the kinds of the first fault that `clap` finds, of which there is at most one, and by what the matches say
abbrev pub asked_by : Kinds → Result Said Text → Meaning
asked_by [] said = by_said said
asked_by (kind ∷ rest) said = by_kind kind

-- what the words ask
unfoldable pub asked_of : List Text → Meaning
asked_of words = asked_by (fault_of program words) (said_of (matches_of program words))

-- ---- what was read

-- the name of a journal
abbrev pub journal_of : Option (String Global) → Option Text
journal_of name = option_map string_bytes name

-- the way of a mode
abbrev pub way_by : Mode → Way
way_by mode.Pipe = Pipe
way_by (mode.Serve address) = Serve (string_bytes address)
way_by (mode.Loop address) = Loop (string_bytes address)

-- what the words that were read say
abbrev pub said_by : Words → Said
said_by w = record {
  users = string_bytes w.users;
  way = way_by w.mode;
  threads = w.threads;
  workers = w.workers;
  connections = w.connections;
  requests = w.requests;
  idle = w.idle;
  until_eof = w.until_eof;
  journal = journal_of w.journal;
}

-- what was read is what the words ask; nothing is told where memory is wanting
abbrev pub IsRead : Result Asked WordsFault → Meaning → Type 0
IsRead (Ok (asked.Run w)) m = m ≡ Says (said_by w)
IsRead (Ok (asked.Help text)) m = m ≡ Help
IsRead (Ok (asked.Version text)) m = m ≡ Version
IsRead (Err (faults.Usage why)) m = (m ≡ Refused) ⊎ (m ≡ Wrong (string_bytes why))
IsRead (Err (faults.Memory _)) m = ⊤

-- the numbers of a run lie in the bounds of their options
pub record AreWithin (w : Words) : Type 0 where
  pub threads : (1 ≤ w.threads) × (w.threads ≤ 16)
  pub workers : (1 ≤ w.workers) × (w.workers ≤ 16)
  pub connections : (1 ≤ w.connections) × (w.connections ≤ most_connections (way_by w.mode))
  pub requests : (1 ≤ w.requests) × (w.requests ≤ 4294967296)
  pub idle : (1 ≤ w.idle) × (w.idle ≤ 86400)

abbrev pub IfRun : Asked → (Words → Type 0) → Type 0
IfRun (asked.Run w) P = P w
IfRun (asked.Help text) P = ⊤
IfRun (asked.Version text) P = ⊤

-- ---- words that are written out

-- the words `--users FILE --mode pipe`
abbrev pub pipe_words : Text → List Text
pipe_words file = codes "--users" ∷ file ∷ codes "--mode" ∷ codes "pipe" ∷ []

-- what they say
abbrev pub pipe_said : Text → Said
pipe_said file = record {
  users = file;
  way = Pipe;
  threads = 1;
  workers = 1;
  connections = 64;
  requests = 1000;
  idle = 60;
  until_eof = false;
  journal = None;
}

-- the words `--users FILE --mode loop --listen ADDRESS`
abbrev pub loop_words : Text → Text → List Text
loop_words file address = codes "--users" ∷ file ∷ codes "--mode" ∷ codes "loop" ∷ codes "--listen" ∷ address ∷ []

-- what they say
abbrev pub loop_said : Text → Text → Said
loop_said file address = record {
  users = file;
  way = Loop address;
  threads = 1;
  workers = 1;
  connections = 10000;
  requests = 1000;
  idle = 60;
  until_eof = false;
  journal = None;
}
