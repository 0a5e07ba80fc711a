-- What a session has done since it began, by what it does next: the bytes that it wrote, with those that it has yet to write, are the exchanges
-- of the requests that it took.
use Rattle.std.specs.Prelude.{◌≡◌, ℕ, ◌+◌, ◌<◌, ◌≤◌, ◌==◌, ◌||◌, ◌⊎◌, ⊤, List, [], ◌∷◌, ◌++◌, Bool, true, Option, length, codes, if◌then◌else◌}
use Rattle.std.specs.Global.{Vec}
use Rattle.std.specs.Str.{bytes_eq}
use Rattle.std.specs.Vec.{vec_len, vec_capacity}
use Rattle.std.specs.Io.KnownBytes.{Appends, append_known}
use Rattle.mx_engine.specs.Shown.{HasLooked}
use Rattle.mx_outside.specs.Ports.{Counts as Rises}
use Rattle.mx_http.specs.Answers.{response_bytes}
use Rattle.mx_http.specs.Calls.{IsCall}
use Rattle.mx_http.specs.Parts.{HasParts}
use Rattle.mx_http.specs.declared.call.Call.{Call}
use Rattle.mx_fold.specs.Lists.{Histories, Lists, lists_of}
use Rattle.mx_poll.specs.Aims.Asked.{Site}
use Rattle.mx_poll.specs.OfEngine.Answers.{Stops, counts, counts_of}
use Rattle.mx_poll.specs.OfEngine.Counts.{Counts}
use Rattle.mx_poll.specs.OfEngine.EnginePass.{EnginePass}
use Rattle.mx_poll.specs.OfEngine.Exchanges.{first_of}
use Rattle.mx_poll.specs.OfEngine.Mark.{Mark}
use Rattle.mx_poll.specs.OfEngine.Shown.{stores_of}
use Rattle.mx_poll.specs.Polls.{IsParked, IsPolled}
use Rattle.mx_render.specs.Rendered.{no_memory_text}
use Rattle.mx_serve.specs.Asked.{call_asked}
use Rattle.mx_serve.specs.Exchanges.{closes_after, exchanges_bytes, last_reading}
use Rattle.mx_serve.specs.Sessions.{IsServed, Moment, all_but_last, moment}
use Rattle.mx_serve.specs.Steps.{HasServed}
use Rattle.mx_serve.specs.Tallies.{Tally}
use Rattle.mx_serve.specs.declared.ended.End.{End}
use Rattle.mx_serve.specs.declared.ended.End.TheVariants as end
use Rattle.mx_loop.specs.Seen.{IsRestOf}
use Rattle.mx_loop.specs.declared.line.Line.{Line}
use Rattle.mx_loop.specs.declared.line.Next.{Next}
use Rattle.mx_loop.specs.declared.line.Next.TheVariants as next
use Rattle.mx_loop.specs.declared.line.Read.{Read}
use Rattle.mx_loop.specs.declared.line.Read.TheVariants as read
use Rattle.mx_loop.specs.declared.line.Rest.{Rest}
use Rattle.mx_loop.specs.declared.line.State.{State}
use Rattle.mx_loop.specs.declared.line.State.TheVariants as state
use Rattle.mx_loop.specs.declared.line.Stepped.{Stepped}
use Rattle.mx_loop.specs.declared.line.Stepped.TheVariants as stepped

-- what contracts see of a session
pub record Sight : Type 0 where
  pub left : Option (List ℕ)
  pub written : Option (List ℕ)
  pub held : List ℕ
  pub out : List ℕ
  pub marks : List Mark

abbrev pub sight : {P : Type 0} → (P → Option (List ℕ)) → (P → Option (List ℕ)) → Line P → Sight
sight left written s = record { left = left s.port; written = written s.port; held = s.intake; out = s.out; marks = s.marks.items }

-- the moment at which what is yet to be written has been; the clock's reading is that of the last mark
abbrev pub ahead_of : Moment → Histories → Tally → Sight → Moment
ahead_of start lists tally s = moment s.held s.left (append_known s.written s.out) lists (last_reading start.reading s.marks) tally

-- each request that was taken was answered, and there may be one more
pub record Served (site : Site) (stops : Stops) (limit : ℕ) (start : Moment) (lists : Histories) (s : Sight) : Type 0 where
  pub few : length s.marks < limit
  pub tally : Tally
  pub served : HasServed site stops limit start (length s.marks) s.marks (ahead_of start lists tally s)

-- the connection from the first moment has ended, with these bytes written
pub record EndedBy (site : Site) (stops : Stops) (limit : ℕ) (start : Moment) (lists : Histories) (marks : List Mark) (left written : Option (List ℕ)) (e : End) : Type 0 where
  pub tally : Tally
  pub calls : List Call
  pub is : IsServed site stops limit start (moment [] left written lists (last_reading start.reading marks) tally) calls marks e

-- a request more was taken
pub record Called (site : Site) (stops : Stops) (limit : ℕ) (start : Moment) (lists : Histories) (s : Sight) (c : Call) : Type 0 where
  pub empty : s.out ≡ []
  pub bytes : List ℕ
  pub is_call : IsCall bytes c
  pub before : Served site stops limit start lists (record s { held = bytes ++ s.held })

-- and is a sync that rests
pub record IsResting (site : Site) (stops : Stops) (limit : ℕ) (start : Moment) (lists : Histories) (s : Sight) (r : Rest) : Type 0 where
  pub taken : Call
  pub called : Called site stops limit start lists s taken
  pub asks : IsRestOf (call_asked site.users taken) r.asked r.poll r.device
  pub head_only : r.head_only ≡ bytes_eq taken.method (codes "HEAD")
  pub closes : r.close ≡ taken.close
  pub spare : r.spare.items ≡ response_bytes 503 no_memory_text r.head_only (closes_after limit (length s.marks) taken)

-- the answers before the last one
abbrev pub earlier_bytes : Site → ℕ → Histories → List Call → List Mark → List ℕ
earlier_bytes site limit lists calls marks = exchanges_bytes site lists limit 0 (all_but_last calls) marks

-- what it does once the answer is put, of which all earlier bytes were written, and which has ended then or goes on
abbrev pub Then : Site → Stops → ℕ → Moment → Histories → Sight → List ℕ → Next → Type 0
Then site stops limit start lists s sent next.Reads =
    (x : Served site stops limit start lists s) × (length (earlier_bytes site limit lists x.served.calls s.marks) ≤ length sent)
Then site stops limit start lists s sent next.Asks =
    (x : EndedBy site stops limit start lists s.marks s.left (append_known s.written s.out) end.Asked) × (length (earlier_bytes site limit lists x.calls s.marks) ≤ length sent)
Then site stops limit start lists s sent next.Fills =
    (x : EndedBy site stops limit start lists s.marks s.left (append_known s.written s.out) end.Full) × (length (earlier_bytes site limit lists x.calls s.marks) ≤ length sent)
Then site stops limit start lists s sent (next.Refuses fault) =
    (x : EndedBy site stops limit start lists s.marks s.left (append_known s.written s.out) (end.Refused fault)) × (length (exchanges_bytes site lists limit 0 x.calls s.marks) ≤ length sent)

abbrev pub Stands : Site → Stops → ℕ → Moment → Histories → Sight → State → Type 0
Stands site stops limit start lists s state.Head = (s.out ≡ []) × Served site stops limit start lists s
Stands site stops limit start lists s (state.Body h) = (s.out ≡ []) × Served site stops limit start lists s × HasParts s.held h
Stands site stops limit start lists s (state.Rests r) = IsResting site stops limit start lists s r
Stands site stops limit start lists s (state.Writes n) = (sent : List ℕ) × Appends start.written s.written sent × Then site stops limit start lists s sent n
Stands site stops limit start lists s (state.Ended e) = EndedBy site stops limit start lists s.marks s.left s.written e

-- a connection of no requests has ended
abbrev pub IsFirst : ℕ → State → Type 0
IsFirst limit state.Head = 0 < limit
IsFirst limit (state.Ended end.Full) = limit ≡ 0
IsFirst limit other = ⊥

-- a session that begins, on what its pass has seen
abbrev pub Starts : Site → Stops → ℕ → Option (List ℕ) → Option (List ℕ) → Histories → Counts → Sight → State → Type 0
Starts site stops limit left written all seen s state =
    (seen ≡ counts_of all) × ((reading : ℕ) (tally : Tally) → Stands site stops limit (moment [] left written all reading tally) (first_of all seen) s state)

-- a step that reads
abbrev pub ReadTo : Site → Stops → ℕ → Moment → Histories → Sight → Read → Type 0
ReadTo site stops limit start lists s (read.Call c) = Called site stops limit start lists s c
ReadTo site stops limit start lists s (read.Stays state stepped) = Stands site stops limit start lists s state

-- there is room for one more
abbrev pub HasRoom : Vec Mark → Type 0
HasRoom marks = vec_len marks < vec_capacity marks

-- a sync that rests says so of what its pass has seen, and there is room for its mark
abbrev pub ArePolled : Lists → Vec Mark → State → Type 0
ArePolled l marks (state.Rests r) = IsPolled r.poll l × HasRoom marks
ArePolled l marks other = ⊤

-- no sync rests in it, and none waits
abbrev pub IsReading : Read → Type 0
IsReading (read.Call c) = ⊤
IsReading (read.Stays (state.Rests r) told) = ⊥
IsReading (read.Stays other (stepped.Waiting parked)) = ⊥
IsReading (read.Stays other told) = ⊤

-- ---- what a step may tell, by the counts of faults and of waits of its port

abbrev pub Caused : End → ℕ → ℕ → Type 0
Caused end.ReadFault before now = Rises true before now
Caused end.WriteFault before now = Rises true before now
Caused other before now = now ≡ before

pub record Counted : Type 0 where
  pub faults : ℕ
  pub waits : ℕ

abbrev pub counted : {P : Type 0} → (P → ℕ) → (P → ℕ) → Line P → Counted
counted faults waits s = record { faults = faults s.port; waits = waits s.port }

abbrev pub Rested : Counted → Counted → Type 0
Rested old new = (new.faults ≡ old.faults) × Rises true old.waits new.waits

abbrev pub Tells : State → Stepped → Counted → Counted → Type 0
Tells (state.Ended e) stepped.Ended old new = Caused e old.faults new.faults × (new.waits ≡ old.waits)
Tells (state.Ended e) other old new = ⊥
Tells (state.Rests r) (stepped.Waiting parked) old new = new ≡ old
Tells (state.Rests r) stepped.Resting old new = ⊥
Tells state.Head stepped.Resting old new = Rested old new
Tells (state.Body h) stepped.Resting old new = Rested old new
Tells (state.Writes n) stepped.Resting old new = Rested old new
Tells state stepped.Moved old new = new ≡ old
Tells state (stepped.Waiting parked) old new = ⊥
Tells state stepped.Ended old new = ⊥

-- a session that has ended stays as it is
abbrev pub TellsFrom : State → State → Stepped → Counted → Counted → Type 0
TellsFrom (state.Ended e) after told old new = (after ≡ state.Ended e) × (told ≡ stepped.Ended) × (new ≡ old)
TellsFrom before after told old new = Tells after told old new

abbrev pub ReadTells : Read → Counted → Counted → Type 0
ReadTells (read.Call c) old new = new ≡ old
ReadTells (read.Stays state stepped) old new = Tells state stepped old new

-- a sync that has nothing to tell yet is parked at the clock's reading, at the fronts that the pass has then seen, which has looked at each stream
abbrev pub IsWaited : ℕ → EnginePass → EnginePass → State → Stepped → Type 0
IsWaited now old new (state.Rests r) (stepped.Waiting parked) = HasLooked old new × IsParked r.poll now (lists_of (stores_of new)) parked
IsWaited now old new other (stepped.Waiting parked) = ⊥
IsWaited now old new after told = ⊤

-- ---- an answer that is taken up

-- its bytes, or those for want of memory
abbrev pub Prints : Mark → ℕ → List ℕ → Bool → Bool → List ℕ → Mark → List ℕ → Type 0
Prints told status text head_only close spare m bytes =
    ((m ≡ told) × (bytes ≡ response_bytes status text head_only close)) ⊎ ((m ≡ record told { memory = true }) × (bytes ≡ spare))

abbrev pub next_of : ℕ → Bool → ℕ → Next
next_of limit close count = if close then next.Asks else (if count == limit then next.Fills else next.Reads)

pub record Puts (limit : ℕ) (old new : Sight) (seen : Counts) (told : Mark) (status : ℕ) (text : List ℕ) (head_only close : Bool) (spare : List ℕ) (n : Next) : Type 0 where
  pub mark : Mark
  pub prints : Prints told status text head_only (close || (length old.marks + 1) == limit) spare mark new.out
  pub marks : new.marks ≡ old.marks ++ mark ∷ []
  pub seen_is : seen ≡ counts mark
  pub next_is : n ≡ next_of limit close (length old.marks + 1)
  pub same : (new.left ≡ old.left) × (new.written ≡ old.written) × (new.held ≡ old.held)
