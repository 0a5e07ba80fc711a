-- What a run did, by its status.
use Rattle.std.specs.Prelude.{◌≡◌, ℕ, ◌<◌, ◌≤◌, ◌⊎◌, List, [], Ok, Err, Option, Some, None, length, IfSome, codes, true, ⊤}
use Rattle.std.specs.Io.KnownBytes.{Keeps, Appends}
use Rattle.mx_outside.specs.Causes.{Rose}
use Rattle.mx_ids.specs.Memory.{refused_memory}
use Rattle.mx_ids.specs.declared.users.Users.{Users}
use Rattle.mx_http.specs.declared.call.Call.{Call}
use Rattle.mx_users.specs.UsersFile.{users_in}
use Rattle.mx_fold.specs.Lists.{Grows, Histories}
use Rattle.mx_serve.specs.OfEngine.Answers.{Stops, nothing, stops_at, stops_with}
use Rattle.mx_serve.specs.Aims.Asked.{Site}
use Rattle.mx_serve.specs.OfEngine.Shown.{Looks, none_made, stores_of}
use Rattle.mx_serve.specs.OfEngine.Written.{Made}
use Rattle.mx_serve.specs.OfEngine.Places.{IsAlone}
use Rattle.mx_serve.specs.Places.{AreOwn}
use Rattle.mx_loop.specs.declared.looping.Looped.{Looped}
use Rattle.mx_loop.specs.declared.looping.Looped.TheVariants as looped
use Rattle.mx_restore.specs.Restored.{Begins}
use Rattle.mx_restore.specs.declared.wrong.RestoreFault.{RestoreFault}
use Rattle.mx_restore.specs.declared.wrong.RestoreFault.TheVariants as restore
use Rattle.mx_serve.specs.OfEngine.EnginePass.{EnginePass}
use Rattle.mx_serve.specs.declared.ended.End.{End}
use Rattle.mx_serve.specs.declared.ended.End.TheVariants as end
use Rattle.mx_serve.specs.declared.ended.Ended.{Ended}
use Rattle.mx_pool.specs.Connections.{Change, Clocked, Ends, Service}
use Rattle.mx_pool.specs.Lines.{Tells, TellsTwo, line_of, listening_line, shown, unkept_text}
use Rattle.mx_pool.specs.Serving.{HasNoneLeft, HasServed}
use Rattle.mx_words.specs.Words.{Help, Loop, Meaning, Pipe, Refused, Said, Says, Serve, Version, Way, Wrong, address_in}
use Rattle.mx_pool.specs.declared.serving.Served.{Served}
use Rattle.mx_pool.specs.declared.serving.Served.TheVariants as served
use Rattle.mx_pool.specs.declared.status.JournalFault.TheVariants as lacks
use Rattle.mx_pool.specs.declared.status.Status.{Status}
use Rattle.mx_pool.specs.declared.status.Status.TheVariants as status
use Rattle.mx_serve.specs.Chains.{Headline}
use Rattle.mx_serve.specs.Rooms.{AreValid}
use Rattle.mx_serve.specs.Tallies.{tally}
use Rattle.mx_serve.specs.Sessions.{AppendsPart, InputFaults, IsServed, OutputFaults, moment}

-- a users file has at most so many bytes
abbrev pub users_limit : ℕ
users_limit = 1048576

-- what a run is given tells: the bytes of the files, those of the journals, the bytes left of the input and those written to the output, and
-- the counts of faults of the files, the journals, the input and the output; and what the clock tells
pub record World : Type 0 where
  pub file : List ℕ → Option (List ℕ)
  pub journal : List ℕ → Option (List ℕ)
  pub left : Change (Option (List ℕ))
  pub written : Change (Option (List ℕ))
  pub file_faults : Change ℕ
  pub journal_faults : Change ℕ
  pub read_faults : Change ℕ
  pub write_faults : Change ℕ
  pub clock : Change Clocked

-- a count of faults rose
abbrev pub HasRisen : Change ℕ → Type 0
HasRisen faults = Rose faults.before faults.after

-- the status of a connection's end
abbrev pub status_of : End → Status
status_of end.Closed = status.Done
status_of end.Asked = status.Done
status_of end.Full = status.RequestStream
status_of end.Cut = status.RequestStream
status_of (end.Refused _) = status.RequestStream
status_of end.ReadFault = status.Outside
status_of end.WriteFault = status.Outside
status_of (end.Memory m) = status.Memory m

-- the status of a loop's end
abbrev pub looped_status : Looped → Status
looped_status looped.Closed = status.Done
looped_status looped.ListenFailed = status.Listener
looped_status (looped.Memory m) = status.Memory m

-- the status of a server's end
abbrev pub server_status : Served → Status
server_status served.Closed = status.Done
server_status served.ListenFailed = status.Listener
server_status served.StartRefused = status.Listener
server_status (served.Memory m) = status.Memory m

-- the file is too long, which line 0 tells, or breaks its form first in the line of this number
abbrev pub IsBroken : List ℕ → ℕ → Type 0
IsBroken bytes line = ((users_limit < length bytes) × (line ≡ 0)) ⊎ (users_in bytes ≡ Err line)

-- the users of the file, which isn't too long
abbrev pub HasUsers : Option (List ℕ) → Users → Type 0
HasUsers told users = IfSome told (λ bytes. (length bytes ≤ users_limit) × (users_in bytes ≡ Ok users))

-- why there are no users, by the bytes of the file and the count of faults of the files
abbrev pub IsCause : Option (List ℕ) → Change ℕ → Status → Type 0
IsCause told faults status.Done = ⊥
IsCause told faults status.RequestStream = ⊥
IsCause told faults status.Usage = ⊥
IsCause told faults (status.UsersFile line) = IfSome told (λ bytes. IsBroken bytes line)
IsCause told faults status.Outside = HasRisen faults
IsCause told faults (status.Memory _) = ⊤
IsCause told faults status.Listener = ⊥
IsCause told faults (status.Journal fault) = ⊥

-- the engine of a run: so many writers a stream, and no block of a stream is drawn once so many positions were
abbrev pub site_for : Users → ℕ → Site
site_for users workers = record { users = users; writers = workers }

abbrev pub run_stops : Stops
run_stops = stops_at 281474976694272

-- the same on a journal, where each store may be lost
abbrev pub kept_stops : Stops
kept_stops = stops_with true true true 281474976694272

-- how a connection begins: the bounds of the streams, what they hold, and what was made with its pass
pub record Beginning : Type 0 where
  pub stops : Stops
  pub lists : Histories
  pub made : Made

-- an engine without a store, and its first pass
abbrev pub from_nothing : Beginning
from_nothing = record { stops = run_stops; lists = nothing; made = none_made }

-- an engine on a journal, which has the stores of its whole lines, where its bytes are told; and its first pass, from which none was split off
pub record IsOnJournal (told : Option (List ℕ)) (b : Beginning) : Type 0 where
  pub stops_are : b.stops ≡ kept_stops
  pub stores : Begins told b.lists
  pub alone : IsAlone b.made

-- one connection of so many requests was served for these users, from a beginning; what its pass has seen, made and looked at in the end is the
-- pass's that is given back. Where no pass was split off on the way to it nobody else stored: the stores that came are those that the marks tell
pub record ServesFrom (b : Beginning) (users : Users) (workers limit : ℕ) (left written : Change (Option (List ℕ))) (reads writes : Change ℕ) (clock : Change Clocked) (s : Status) (ended : Ended) (p : EnginePass) : Type 0 where
  pub calls : List Call
  pub looks : Looks
  pub served : IsServed (site_for users workers) b.stops limit
      (moment [] left.before written.before b.lists clock.before.last (record { made = b.made; looks = looks; readings = clock.before.readings }))
      (moment [] left.after written.after (stores_of p) clock.after.last (tally p clock.after.readings)) calls ended.marks ended.end
  pub read_faults : InputFaults ended.end reads.before reads.after
  pub write_faults : OutputFaults ended.end writes.before writes.after
  pub status_is : s ≡ status_of ended.end
  pub valid : AreValid (stores_of p) ended.marks
  pub headline : Headline (site_for users workers) (stores_of p) calls ended.marks
  pub alone : IsAlone b.made → AreOwn (site_for users workers) b.lists (stores_of p) calls ended.marks

-- the same on an engine without a store, by its first pass, with which nothing was made, and from which none was split off
abbrev pub ServesOne : Users → ℕ → ℕ → Change (Option (List ℕ)) → Change (Option (List ℕ)) → Change ℕ → Change ℕ → Change Clocked → Status → Ended → EnginePass → Type 0
ServesOne users workers limit left written reads writes clock s ended p = ServesFrom from_nothing users workers limit left written reads writes clock s ended p

-- nothing was taken and nothing was written, and the clock wasn't read
pub record Untouched (left written : Change (Option (List ℕ))) (clock : Change Clocked) : Type 0 where
  pub taken : Keeps left.before left.after
  pub put : Keeps written.before written.after
  pub unread : clock.after ≡ clock.before

-- a connection was served for these users, or there was no memory for its engine
abbrev pub ServesUsers : Users → ℕ → ℕ → Change (Option (List ℕ)) → Change (Option (List ℕ)) → Change ℕ → Change ℕ → Change Clocked → Status → Option (Ended × EnginePass) → Type 0
ServesUsers users workers limit left written reads writes clock s None = (s ≡ status.Memory refused_memory) × Untouched left written clock
ServesUsers users workers limit left written reads writes clock s (Some c) = ServesOne users workers limit left written reads writes clock s c.0 c.1

-- in mode `pipe`: for the users of the file a connection was served, or none was, and why
abbrev pub RanPipe : Said → World → Status → Option (Ended × EnginePass) → Type 0
RanPipe said w s None = Untouched w.left w.written w.clock × IsCause (w.file said.users) w.file_faults s
RanPipe said w s (Some c) = (users : Users) × HasUsers (w.file said.users) users × ServesOne users said.workers said.requests w.left w.written w.read_faults w.write_faults w.clock s c.0 c.1

-- how a server ended, by the bytes of its users file and the count of faults of the files
abbrev pub IsServerEnd : Option (List ℕ) → Change ℕ → Status → Type 0
IsServerEnd told faults status.Done = (users : Users) × HasUsers told users
IsServerEnd told faults status.Listener = (users : Users) × HasUsers told users
IsServerEnd told faults other = IsCause told faults other

-- what a run did, by the address of its words, if their mode has one
abbrev pub RanMode : Option (List ℕ) → Said → World → Status → Option (Ended × EnginePass) → Type 0
RanMode None said w s connection = RanPipe said w s connection
RanMode (Some address) said w s connection = (connection ≡ None) × Untouched w.left w.written w.clock × IsServerEnd (w.file said.users) w.file_faults s

-- the status of a run that has no engine on its journal
abbrev pub status_for : RestoreFault → Status
status_for restore.Busy = status.Journal lacks.Busy
status_for restore.Failed = status.Journal lacks.Failed
status_for (restore.Line number wrong) = status.Journal (lacks.Line number)
status_for (restore.Memory refused) = status.Memory refused

-- why a run on a journal has served nothing, by the bytes of its users file and the counts of faults of the files and of the journals
abbrev pub IsKeptCause : Option (List ℕ) → Change ℕ → Change ℕ → Status → Type 0
IsKeptCause told faults logs (status.Journal lacks.Busy) = HasRisen logs
IsKeptCause told faults logs (status.Journal lacks.Failed) = HasRisen logs
IsKeptCause told faults logs (status.Journal (lacks.Line n)) = ⊤
IsKeptCause told faults logs other = IsCause told faults other

-- in mode `pipe` on a journal: for the users of the file a connection was served, or none was, and why
abbrev pub RanPipeOn : List ℕ → Said → World → Status → Option (Ended × EnginePass) → Type 0
RanPipeOn name said w s None = Untouched w.left w.written w.clock × IsKeptCause (w.file said.users) w.file_faults w.journal_faults s
RanPipeOn name said w s (Some c) = (users : Users) × HasUsers (w.file said.users) users × (b : Beginning) × IsOnJournal (w.journal name) b
    × ServesFrom b users said.workers said.requests w.left w.written w.read_faults w.write_faults w.clock s c.0 c.1

-- how a server on a journal ended
abbrev pub IsKeptEnd : Option (List ℕ) → Change ℕ → Change ℕ → Status → Type 0
IsKeptEnd told faults logs status.Done = (users : Users) × HasUsers told users
IsKeptEnd told faults logs status.Listener = (users : Users) × HasUsers told users
IsKeptEnd told faults logs other = IsKeptCause told faults logs other

-- what a run on a journal did, by the address of its words
abbrev pub RanModeOn : Option (List ℕ) → List ℕ → Said → World → Status → Option (Ended × EnginePass) → Type 0
RanModeOn None name said w s connection = RanPipeOn name said w s connection
RanModeOn (Some address) name said w s connection = (connection ≡ None) × Untouched w.left w.written w.clock × IsKeptEnd (w.file said.users) w.file_faults w.journal_faults s

-- what a run did, by the journal of its words, if they name one
abbrev pub RanWith : Option (List ℕ) → Said → World → Status → Option (Ended × EnginePass) → Type 0
RanWith None said w s connection = RanMode (address_in said.way) said w s connection
RanWith (Some name) said w s connection = RanModeOn (address_in said.way) name said w s connection

abbrev pub RanBy : Said → World → Status → Option (Ended × EnginePass) → Type 0
RanBy said w s connection = RanWith said.journal said w s connection

-- nothing was served
abbrev pub IsUnserved : World → Option (Ended × EnginePass) → Type 0
IsUnserved w connection = (connection ≡ None) × Untouched w.left w.written w.clock

-- a text was written to the output, or the output failed
abbrev pub Prints : Change (Option (List ℕ)) → Change ℕ → Status → Type 0
Prints written writes s = (text : List ℕ) ×
    (((s ≡ status.Done) × Appends written.before written.after text) ⊎ ((s ≡ status.Outside) × HasRisen writes × AppendsPart written.before written.after text))

-- a text was asked, and nothing was served
pub record IsPrinted (w : World) (s : Status) (connection : Option (Ended × EnginePass)) : Type 0 where
  pub none : connection ≡ None
  pub taken : Keeps w.left.before w.left.after
  pub unread : w.clock.after ≡ w.clock.before
  pub prints : Prints w.written w.write_faults s

-- there was no memory to read the words, or for a text that they ask
abbrev pub IsShort : World → Status → Option (Ended × EnginePass) → Type 0
IsShort w s connection = (s ≡ status.Memory refused_memory) × IsUnserved w connection

-- the words aren't of their form
abbrev pub IsRefused : World → Status → Option (Ended × EnginePass) → Type 0
IsRefused w s connection = ((s ≡ status.Usage) ⊎ (s ≡ status.Memory refused_memory)) × IsUnserved w connection

-- what a run did, by its words
abbrev pub IsRan : Meaning → World → Status → Option (Ended × EnginePass) → Type 0
IsRan (Says said) w s connection = IsShort w s connection ⊎ RanBy said w s connection
IsRan Help w s connection = IsShort w s connection ⊎ IsPrinted w s connection
IsRan Version w s connection = IsShort w s connection ⊎ IsPrinted w s connection
IsRan Refused w s connection = IsRefused w s connection
IsRan (Wrong why) w s connection = IsRefused w s connection

-- the status `Usage` comes exactly where the words aren't of their form, but for want of memory
abbrev pub IsUsage : Meaning → Status → Type 0
IsUsage (Says said) s = s ≡ status.Usage → ⊥
IsUsage Help s = s ≡ status.Usage → ⊥
IsUsage Version s = s ≡ status.Usage → ⊥
IsUsage Refused s = (s ≡ status.Usage) ⊎ (s ≡ status.Memory refused_memory)
IsUsage (Wrong why) s = (s ≡ status.Usage) ⊎ (s ≡ status.Memory refused_memory)

-- in mode `serve` no pair is left, and in mode `loop` no port, where they are told
abbrev pub ServesAt : {P Q : Type 0} → Way → Option (List P) → Option (List Q) → Type 0
ServesAt Pipe left ports = ⊤
ServesAt (Serve address) left ports = HasNoneLeft left
ServesAt (Loop address) left ports = HasNoneLeft ports

abbrev pub ServesAll : {P Q : Type 0} → Meaning → Option (List P) → Option (List Q) → Type 0
ServesAll (Says said) left ports = ServesAt said.way left ports
ServesAll other left ports = ⊤

-- status `Listener` comes only where a count of faults rose: in mode `serve` that of the listener or of the spawner, in mode `loop` that of the
-- ports, and in mode `pipe` never
abbrev pub ListenerRose : Way → Change ℕ → Change ℕ → Change ℕ → Type 0
ListenerRose Pipe listener spawner ports = ⊥
ListenerRose (Serve address) listener spawner ports = HasRisen listener ⊎ HasRisen spawner
ListenerRose (Loop address) listener spawner ports = HasRisen ports

abbrev pub RunsListenerRose : Meaning → Change ℕ → Change ℕ → Change ℕ → Type 0
RunsListenerRose (Says said) listener spawner ports = ListenerRose said.way listener spawner ports
RunsListenerRose other listener spawner ports = ⊥

-- what a server of so many writers and requests is, for these users, by the bounds of its streams
abbrev pub service_with : Stops → Users → ℕ → ℕ → Service
service_with stops users workers limit = record { site = site_for users workers; stops = stops; limit = limit }

abbrev pub service_for : Users → ℕ → ℕ → Service
service_for users workers limit = service_with run_stops users workers limit

-- what a run in mode `serve` is given tells: the pairs of the listener that are left, and the number of the spawner's starts
pub record Arrivals (P : Type 0) : Type 0 where
  pub pairs : Change (Option (List P))
  pub starts : Change ℕ

abbrev pub arrivals : {P : Type 0} → Change (Option (List P)) → Change ℕ → Arrivals P
arrivals pairs starts = record { pairs = pairs; starts = starts }

-- no connection was begun
pub record IsIdle {P : Type 0} (came : Arrivals P) : Type 0 where
  pub pairs_are : came.pairs.after ≡ came.pairs.before
  pub starts_are : came.starts.after ≡ came.starts.before

-- nor is the run done
abbrev pub HasNone : {P : Type 0} → Arrivals P → Status → Type 0
HasNone came s = IsIdle came × (s ≡ status.Done → ⊥)

-- a server served
abbrev pub HasServedAs : {L P : Type 0} → Service → (L → Option (List P)) → (P → Ends) → Arrivals P → Status → Type 0
HasServedAs service left ends came s = (how : Served) × (s ≡ server_status how) × (seen : Histories) × HasServed service left ends came.pairs came.starts how seen

-- a server of so many writers and requests served these users
abbrev pub HasServedFor : {L P : Type 0} → Users → ℕ → ℕ → (L → Option (List P)) → (P → Ends) → Arrivals P → Status → Type 0
HasServedFor users workers limit left ends came s = HasServedAs (service_for users workers limit) left ends came s

-- a server served, from these histories on
abbrev pub HasServedFrom : {L P : Type 0} → Service → Histories → (L → Option (List P)) → (P → Ends) → Arrivals P → Status → Type 0
HasServedFrom service lists left ends came s = (how : Served) × (s ≡ server_status how) × (seen : Histories) × HasServed service left ends came.pairs came.starts how seen × Grows lists seen

-- a server on a journal served these users, from the stores of its whole lines on, where its bytes are told
abbrev pub HasServedOn : {L P : Type 0} → Option (List ℕ) → Users → ℕ → ℕ → (L → Option (List P)) → (P → Ends) → Arrivals P → Status → Type 0
HasServedOn told users workers limit left ends came s = (lists : Histories) × Begins told lists × HasServedFrom (service_with kept_stops users workers limit) lists left ends came s

-- no connection was begun, or a server on a journal served the users of the file
abbrev pub ServesFileOn : {L P : Type 0} → Option (List ℕ) → Said → (List ℕ → Option (List ℕ)) → (L → Option (List P)) → (P → Ends) → Arrivals P → Status → Type 0
ServesFileOn told said file left ends came s = HasNone came s ⊎ ((users : Users) × HasUsers (file said.users) users × ∥ HasServedOn told users said.workers said.requests left ends came s ∥₁)

-- no connection was begun, or a server served these users
abbrev pub ServesFor : {L P : Type 0} → Users → ℕ → ℕ → (L → Option (List P)) → (P → Ends) → Arrivals P → Status → Type 0
ServesFor users workers limit left ends came s = HasNone came s ⊎ ∥ HasServedFor users workers limit left ends came s ∥₁

-- the same for the users of the file
abbrev pub ServesFile : {L P : Type 0} → Said → (List ℕ → Option (List ℕ)) → (L → Option (List P)) → (P → Ends) → Arrivals P → Status → Type 0
ServesFile said file left ends came s = HasNone came s ⊎ ((users : Users) × HasUsers (file said.users) users × ∥ HasServedFor users said.workers said.requests left ends came s ∥₁)

-- in mode `serve`; in mode `pipe` no connection is begun, and in mode `loop` none of the listener's
abbrev pub ServesBy : {L P : Type 0} → Way → Said → (List ℕ → Option (List ℕ)) → (L → Option (List P)) → (P → Ends) → Arrivals P → Status → Type 0
ServesBy Pipe said file left ends came s = IsIdle came
ServesBy (Serve address) said file left ends came s = ServesFile said file left ends came s
ServesBy (Loop address) said file left ends came s = came.pairs.after ≡ came.pairs.before

-- the same on a journal
abbrev pub ServesOn : {L P : Type 0} → Way → Option (List ℕ) → Said → (List ℕ → Option (List ℕ)) → (L → Option (List P)) → (P → Ends) → Arrivals P → Status → Type 0
ServesOn Pipe told said file left ends came s = IsIdle came
ServesOn (Serve address) told said file left ends came s = ServesFileOn told said file left ends came s
ServesOn (Loop address) told said file left ends came s = came.pairs.after ≡ came.pairs.before

-- by the journal of the words, if they name one, and what is told of its bytes
abbrev pub ServesWith : {L P : Type 0} → Option (List ℕ) → (List ℕ → Option (List ℕ)) → Said → (List ℕ → Option (List ℕ)) → (L → Option (List P)) → (P → Ends) → Arrivals P → Status → Type 0
ServesWith None journal said file left ends came s = ServesBy said.way said file left ends came s
ServesWith (Some name) journal said file left ends came s = ServesOn said.way (journal name) said file left ends came s

-- what a run served in mode `serve`, by its words
abbrev pub ServesRun : {L P : Type 0} → Meaning → (List ℕ → Option (List ℕ)) → (List ℕ → Option (List ℕ)) → (L → Option (List P)) → (P → Ends) → Arrivals P → Status → Type 0
ServesRun (Says said) journal file left ends came s = ServesWith said.journal journal said file left ends came s
ServesRun Help journal file left ends came s = IsIdle came
ServesRun Version journal file left ends came s = IsIdle came
ServesRun Refused journal file left ends came s = IsIdle came
ServesRun (Wrong why) journal file left ends came s = IsIdle came

-- the number of a status
abbrev pub number_of : Status → ℕ
number_of status.Done = 0
number_of status.RequestStream = 1
number_of status.Usage = 2
number_of (status.UsersFile line) = 3
number_of status.Outside = 4
number_of (status.Memory _) = 5
number_of status.Listener = 6
number_of (status.Journal fault) = 7

-- the lines of a run in mode `pipe`: where no connection was served, with the name of the users file
abbrev pub TellsPipe : List ℕ → Option (Ended × EnginePass) → Option (List ℕ) → Option (List ℕ) → ℕ → ℕ → Status → Type 0
TellsPipe file None old new faults_old faults_new s = Tells old new faults_old faults_new (line_of s (Some (shown file)))
TellsPipe file (Some c) old new faults_old faults_new s = Tells old new faults_old faults_new (line_of s None)

-- what a server's status is about, before it serves: the address that can't be bound, or the users file
abbrev pub about_of : List ℕ → List ℕ → Status → List ℕ
about_of file address status.Listener = address
about_of file address other = file

-- the lines of a run in mode `serve`: the address, once it is bound, which it is where the status is 0, and then why the status isn't 0;
-- or why no address was bound
abbrev pub TellsServer : List ℕ → List ℕ → Option (List ℕ) → Option (List ℕ) → ℕ → ℕ → Status → Type 0
TellsServer file address old new faults_old faults_new s =
    (Tells old new faults_old faults_new (line_of s (Some (shown (about_of file address s)))) × (s ≡ status.Done → ⊥))
    ⊎ TellsTwo old new faults_old faults_new (listening_line address unkept_text) (line_of s None)

-- the line of a run that has no journal, of this name: with the name, or with what is wrong with a line
abbrev pub TellsUnmade : List ℕ → Option (List ℕ) → Option (List ℕ) → ℕ → ℕ → Status → Type 0
TellsUnmade name old new faults_old faults_new (status.Journal lacks.Busy) = Tells old new faults_old faults_new (line_of (status.Journal lacks.Busy) (Some (shown name)))
TellsUnmade name old new faults_old faults_new (status.Journal lacks.Failed) = Tells old new faults_old faults_new (line_of (status.Journal lacks.Failed) (Some (shown name)))
TellsUnmade name old new faults_old faults_new (status.Journal (lacks.Line n)) = (wrong : List ℕ) × Tells old new faults_old faults_new (line_of (status.Journal (lacks.Line n)) (Some (shown wrong)))
TellsUnmade name old new faults_old faults_new (status.Memory m) = Tells old new faults_old faults_new (line_of (status.Memory m) None)
TellsUnmade name old new faults_old faults_new other = ⊥

-- the line of a run on a journal that has served nothing: with the name of the users file, or why it has no journal
abbrev pub TellsNone : List ℕ → List ℕ → Option (List ℕ) → Option (List ℕ) → ℕ → ℕ → Status → Type 0
TellsNone file name old new faults_old faults_new (status.UsersFile line) = Tells old new faults_old faults_new (line_of (status.UsersFile line) (Some (shown file)))
TellsNone file name old new faults_old faults_new status.Outside = Tells old new faults_old faults_new (line_of status.Outside (Some (shown file)))
TellsNone file name old new faults_old faults_new other = TellsUnmade name old new faults_old faults_new other

abbrev pub TellsPipeOn : List ℕ → List ℕ → Option (Ended × EnginePass) → Option (List ℕ) → Option (List ℕ) → ℕ → ℕ → Status → Type 0
TellsPipeOn file name None old new faults_old faults_new s = TellsNone file name old new faults_old faults_new s
TellsPipeOn file name (Some c) old new faults_old faults_new s = Tells old new faults_old faults_new (line_of s None)

-- the line of a server whose address isn't bound
abbrev pub TellsUnbound : List ℕ → Option (List ℕ) → Option (List ℕ) → ℕ → ℕ → Status → Type 0
TellsUnbound address old new faults_old faults_new status.Listener = Tells old new faults_old faults_new (line_of status.Listener (Some (shown address)))
TellsUnbound address old new faults_old faults_new (status.Memory m) = Tells old new faults_old faults_new (line_of (status.Memory m) None)
TellsUnbound address old new faults_old faults_new other = ⊥

-- the lines of a server that is made: the address, once it is bound, with what is said behind it, and then why the status isn't 0; or why
-- it isn't bound
abbrev pub TellsBound : List ℕ → List ℕ → Option (List ℕ) → Option (List ℕ) → ℕ → ℕ → Status → Type 0
TellsBound says address old new faults_old faults_new s =
    TellsUnbound address old new faults_old faults_new s ⊎ TellsTwo old new faults_old faults_new (listening_line address says) (line_of s None)

-- the same on a journal
abbrev pub TellsListened : List ℕ → Option (List ℕ) → Option (List ℕ) → ℕ → ℕ → Status → Type 0
TellsListened address old new faults_old faults_new s = TellsBound (codes "\n") address old new faults_old faults_new s

-- the lines of a run on a journal of a name at an address, or at none
abbrev pub TellsOn : Option (List ℕ) → List ℕ → List ℕ → Option (Ended × EnginePass) → Option (List ℕ) → Option (List ℕ) → ℕ → ℕ → Status → Type 0
TellsOn None file name connection old new faults_old faults_new s = TellsPipeOn file name connection old new faults_old faults_new s
TellsOn (Some address) file name connection old new faults_old faults_new s =
    TellsNone file name old new faults_old faults_new s ⊎ TellsListened address old new faults_old faults_new s

-- the lines of a run at an address, or at none
abbrev pub TellsAt : Option (List ℕ) → List ℕ → Option (Ended × EnginePass) → Option (List ℕ) → Option (List ℕ) → ℕ → ℕ → Status → Type 0
TellsAt None file connection old new faults_old faults_new s = TellsPipe file connection old new faults_old faults_new s
TellsAt (Some address) file connection old new faults_old faults_new s = TellsServer file address old new faults_old faults_new s

-- by the journal of the words, if they name one
abbrev pub TellsWith : Option (List ℕ) → Said → Option (Ended × EnginePass) → Option (List ℕ) → Option (List ℕ) → ℕ → ℕ → Status → Type 0
TellsWith None said connection old new faults_old faults_new s = TellsAt (address_in said.way) said.users connection old new faults_old faults_new s
TellsWith (Some name) said connection old new faults_old faults_new s = TellsOn (address_in said.way) said.users name connection old new faults_old faults_new s

-- the lines of a run, by its words: why they aren't of their form, which is what `clap` says where it refuses them; there may have been
-- no memory to read them
abbrev pub TellsRun : Meaning → Option (Ended × EnginePass) → Option (List ℕ) → Option (List ℕ) → ℕ → ℕ → Status → Type 0
TellsRun (Says said) connection old new faults_old faults_new s =
    ((s ≡ status.Memory refused_memory) × Tells old new faults_old faults_new (line_of s None)) ⊎ TellsWith said.journal said connection old new faults_old faults_new s
TellsRun Help connection old new faults_old faults_new s = Tells old new faults_old faults_new (line_of s None)
TellsRun Version connection old new faults_old faults_new s = Tells old new faults_old faults_new (line_of s None)
TellsRun Refused connection old new faults_old faults_new s = (why : List ℕ) × Tells old new faults_old faults_new (line_of s (Some (shown why)))
TellsRun (Wrong why) connection old new faults_old faults_new s = Tells old new faults_old faults_new (line_of s (Some (shown why)))
