-- The lines to the error stream.
use Rattle.std.specs.Prelude.{◌⊎◌, ◌==◌, ℕ, List, [], ◌++◌, Option, Some, None, codes, decimal, encode_utf8_all, if◌then◌else◌, map}
use Rattle.std.specs.Char.{is_control}
use Rattle.std.specs.Io.KnownBytes.{Appends}
use Rattle.std.specs.Str.{chars}
use Rattle.mx_outside.specs.Causes.{Rose}
use Rattle.mx_serve.specs.Sessions.{AppendsPart}
use Rattle.mx_pool.specs.declared.status.JournalFault.TheVariants as journal
use Rattle.mx_pool.specs.declared.status.Status.{Status}
use Rattle.mx_pool.specs.declared.status.Status.TheVariants as status

-- a character as a line shows it: a control character (U+0000 to U+001F, U+007F to U+009F) is a space
abbrev pub shown_char : ℕ → ℕ
shown_char c = if is_control c then 32 else c

-- a text as a line shows it
abbrev pub shown : List ℕ → List ℕ
shown text = encode_utf8_all (map shown_char (chars text))

-- the end of a line: what it is about, if that is given, and what is said of that, with the line's end
abbrev pub end_of : Option (List ℕ) → List ℕ → List ℕ
end_of None says = codes "\n"
end_of (Some about) says = codes ": " ++ (about ++ says)

-- what is said of a users file: line 0 tells that it is too long
abbrev pub limit_text : ℕ → List ℕ
limit_text line = if line == 0 then codes ": more than 1048576 bytes\n" else codes "\n"

-- the line that tells why a status isn't 0, with what it is about, if that is given
abbrev pub line_of : Status → Option (List ℕ) → List ℕ
line_of status.Done about = []
line_of status.RequestStream about = codes "mxsync: request stream\n"
line_of status.Usage about = codes "mxsync: usage" ++ end_of about (codes "\n")
line_of (status.UsersFile line) about = codes "mxsync: users file, line " ++ (decimal line ++ end_of about (limit_text line))
line_of status.Outside about = codes "mxsync: outside" ++ end_of about (codes ": can't be read\n")
line_of (status.Memory _) about = codes "mxsync: memory\n"
line_of status.Listener about = codes "mxsync: listener" ++ end_of about (codes ": can't be bound\n")
line_of (status.Journal journal.Busy) about = codes "mxsync: journal: in use" ++ end_of about (codes "\n")
line_of (status.Journal journal.Failed) about = codes "mxsync: journal" ++ end_of about (codes ": can't be read or written\n")
line_of (status.Journal (journal.Line n)) about = codes "mxsync: journal: line " ++ (decimal n ++ end_of about (codes "\n"))

-- the line that names the address at which a server listens, and what is said behind that
abbrev pub listening_line : List ℕ → List ℕ → List ℕ
listening_line address says = codes "mxsync: listening on " ++ (address ++ says)

-- without a journal nothing is kept
abbrev pub unkept_text : List ℕ
unkept_text = codes ", and keeps nothing: no journal is named\n"

-- the line was written, or the sink failed
abbrev pub Tells : Option (List ℕ) → Option (List ℕ) → ℕ → ℕ → List ℕ → Type 0
Tells old new faults_old faults_new line = Appends old new line ⊎ (Rose faults_old faults_new × AppendsPart old new line)

-- two lines were told, one after the other
abbrev pub TellsTwo : Option (List ℕ) → Option (List ℕ) → ℕ → ℕ → List ℕ → List ℕ → Type 0
TellsTwo old new faults_old faults_new first second =
    (mid : Option (List ℕ)) × (between : ℕ) × Tells old mid faults_old between first × Tells mid new between faults_new second
