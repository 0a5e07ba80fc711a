-- What is known of the matches of a parse that succeeded.
use Rattle.std.specs.Prelude.{◌≡◌, ◌≤◌, ◌<◌, ◌^◌, ℕ, List, [], ◌++◌, Some, Result, Ok, Err, codes, option_map, string_bytes, ⊤}
use Rattle.std.specs.Str.Parse.{IsNumeral, without_leading_plus}
use Rattle.clap.specs.Words.{Text, fault_of, first_value, matches_of, one_text, rows_of}
use Rattle.clap.specs.declared.error.kind.ErrorKind.{ErrorKind}
use Rattle.clap.specs.declared.error.kind.ErrorKind.TheVariants as kinds
use Rattle.clap.specs.declared.parser.matches.Found.{Found}
use Rattle.mx_words.specs.Program.{program}
use Rattle.mx_words.specs.Words.{Loop, Pipe, Said, Serve, Way, number_of, said_by}
use Rattle.mx_words.specs.declared.matches.ModeAt.{ModeAt}
use Rattle.mx_words.specs.declared.matches.ModeAt.TheVariants as at
use Rattle.mx_words.specs.declared.matches.Values.{Values}
use Rattle.mx_words.specs.declared.matches.Wrong.{Wrong}
use Rattle.mx_words.specs.declared.words.Asked.{Asked}
use Rattle.mx_words.specs.declared.words.Asked.TheVariants as asked
use Rattle.mx_words.specs.declared.words.Words.{Words}
use Rattle.mx_words.specs.declared.words.WordsFault.{WordsFault}
use Rattle.mx_words.specs.declared.words.WordsFault.TheVariants as faults

-- an option has a number of so many bits
abbrev pub HasNumber : ℕ → Found → Text → Type 0
HasNumber bits f id = (t : Text) × (one_text f id ≡ Some t) × IsNumeral 10 (without_leading_plus t) × (number_of t < 2 ^ bits)

-- an option has a number of 1 to `most`
abbrev pub HasNumberUpTo : ℕ → Found → Text → Type 0
HasNumberUpTo most f id = (t : Text) × (one_text f id ≡ Some t) × IsNumeral 10 (without_leading_plus t) × (1 ≤ number_of t) × (number_of t ≤ most)

-- an option has a number of 1 to `most` where it is given, and no sign that `clap` takes off
abbrev pub HasNumberIfGiven : ℕ → Found → Text → Type 0
HasNumberIfGiven most f id =
    (t : Text) → first_value f id ≡ Some t
    → (one_text f id ≡ Some t) × IsNumeral 10 (without_leading_plus t) × (1 ≤ number_of t) × (number_of t ≤ most)

-- each option of a number has one in its bounds
pub record HasNumbers (f : Found) : Type 0 where
  pub threads : HasNumberUpTo 16 f (codes "threads")
  pub workers : HasNumberUpTo 16 f (codes "workers")
  pub connections : HasNumberIfGiven 50000 f (codes "connections")
  pub requests : HasNumberUpTo 4294967296 f (codes "requests")
  pub idle : HasNumberUpTo 86400 f (codes "idle")

-- `clap` takes the words, and these are its matches
pub record IsParse (words : List Text) (f : Found) : Type 0 where
  pub accepted : fault_of program words ≡ []
  pub rows : rows_of f ≡ matches_of program words
  pub numbers : HasNumbers f

-- the way of a mode with its address
abbrev pub way_at : ModeAt → Way
way_at at.Pipe = Pipe
way_at (at.Serve address) = Serve address.now
way_at (at.Loop address) = Loop address.now

abbrev pub said_by_values : Values → Said
said_by_values v = record {
  users = v.users.now;
  way = way_at v.mode;
  threads = v.threads;
  workers = v.workers;
  connections = v.connections;
  requests = v.requests;
  idle = v.idle;
  until_eof = v.until_eof;
  journal = option_map (λ s. s.now) v.journal;
}

-- why the values make no run, as a text
abbrev pub why_of : Wrong → Text
why_of w = w.says.now ++ w.word.now

-- what a run says, or why there is none; nothing is told where memory is wanting
abbrev pub IsRunBy : Result Words WordsFault → Result Said Text → Type 0
IsRunBy (Ok w) said = said ≡ Ok (said_by w)
IsRunBy (Err (faults.Usage why)) said = said ≡ Err (string_bytes why)
IsRunBy (Err (faults.Memory _)) said = ⊤

-- what is asked where there are no matches, by the kind of the error
abbrev pub IsAskedBy : Result Asked WordsFault → ErrorKind → Type 0
IsAskedBy (Ok (asked.Run w)) kind = ⊥
IsAskedBy (Ok (asked.Help text)) kind = kind ≡ kinds.DisplayHelp
IsAskedBy (Ok (asked.Version text)) kind = kind ≡ kinds.DisplayVersion
IsAskedBy (Err (faults.Usage why)) kind = (kind ≡ kinds.DisplayHelp → ⊥) × (kind ≡ kinds.DisplayVersion → ⊥) × (kind ≡ kinds.OutOfMemory → ⊥)
IsAskedBy (Err (faults.Memory _)) kind = ⊤
