-- What a connection leaves beside bytes and lists: what was made with its pass, how often that looked, and the readings of its clock.
use Rattle.std.specs.Prelude.{◌≡◌, ℕ, ◌+◌, ◌≤◌, ◌||◌, ◌⊎◌, Bool, true, false, List, [], ◌∷◌, ◌++◌, ⊤, if◌then◌else◌}
use Rattle.mx_http.specs.declared.call.Call.{Call}
use Rattle.mx_ids.specs.declared.users.Users.{Users}
use Rattle.mx_fold.specs.Lists.{Histories}
use Rattle.mx_poll.specs.Acts.Acts.{asked}
use Rattle.mx_poll.specs.Aims.Asked.{Site}
use Rattle.mx_poll.specs.OfEngine.Answers.{answer_to, counts, made_for}
use Rattle.mx_poll.specs.OfEngine.Exchanges.{first_of}
use Rattle.mx_poll.specs.OfEngine.Shown.{Looks, is_whoami, looks_of, made_of}
use Rattle.mx_poll.specs.OfEngine.Written.{Made}
use Rattle.mx_poll.specs.OfEngine.Mark.{Mark}
use Rattle.mx_poll.specs.OfEngine.EnginePass.{EnginePass}
use Rattle.mx_poll.specs.Waits.{HasWaited, ReadsOn, last_of, may_rest}
use Rattle.mx_serve.specs.Asked.{call_asked}
use Rattle.mx_serve.specs.declared.call_asked.CallAsked.{CallAsked}
use Rattle.mx_serve.specs.declared.call_asked.CallAsked.TheVariants as call

-- at a moment: what was made with the pass, its numbers of looks, and the clock's readings so far
pub record Tally : Type 0 where
  pub made : Made
  pub looks : Looks
  pub readings : List ℕ

abbrev pub tally : EnginePass → List ℕ → Tally
tally p readings = record { made = made_of p; looks = looks_of p; readings = readings }

-- ---- stores

-- what was made after an answer of this mark: its own writes, where the engine is asked
abbrev pub made_by : Site → CallAsked → Mark → Made → Made
made_by site call.Options m made = made
made_by site call.Versions m made = made
made_by site (call.Refused r) m made = made
made_by site (call.Request r) m made = made_for (asked site m.now r.who r.ask) m made

-- after all these calls with their marks
abbrev pub made_over : Site → List Call → List Mark → Made → Made
made_over site [] marks made = made
made_over site (c ∷ calls) [] made = made
made_over site (c ∷ calls) (m ∷ marks) made = made_over site calls marks (made_by site (call_asked site.users c) m made)

-- ---- looks

-- an answer looks at each stream where the engine is asked for more than `whoami`, and memory wasn't wanting
abbrev pub looks_for : CallAsked → Mark → ℕ
looks_for call.Options m = 0
looks_for call.Versions m = 0
looks_for (call.Refused r) m = 0
looks_for (call.Request r) m = if m.memory || is_whoami r.ask then 0 else 1

abbrev pub looks_over : Users → List Call → List Mark → ℕ
looks_over users [] marks = 0
looks_over users (c ∷ calls) [] = 0
looks_over users (c ∷ calls) (m ∷ marks) = looks_for (call_asked users c) m + looks_over users calls marks

-- each stream was looked at so many times, or more
pub record LooksAfter (n : ℕ) (old new : Looks) : Type 0 where
  pub events : old.events + n ≤ new.events
  pub receipts : old.receipts + n ≤ new.receipts
  pub accounts : old.accounts + n ≤ new.accounts

-- ---- readings

-- the readings of one exchange: that of the request, and those after it
pub record CallReadings : Type 0 where
  pub first : ℕ
  pub more : List ℕ

abbrev pub readings_of : CallReadings → List ℕ
readings_of r = r.first ∷ r.more

abbrev pub readings_in : List CallReadings → List ℕ
readings_in [] = []
readings_in (r ∷ rs) = readings_of r ++ readings_in rs

-- what is asked at the reading `first` and told at the mark's: a sync that may wait tells that there is nothing only once its timeout has
-- passed, and all else is told at the reading of the request
abbrev pub WaitsFor : Site → Histories → Mark → CallAsked → ℕ → Type 0
WaitsFor site lists m call.Options first = m.now ≡ first
WaitsFor site lists m call.Versions first = m.now ≡ first
WaitsFor site lists m (call.Refused r) first = m.now ≡ first
WaitsFor site lists m (call.Request r) first = HasWaited r.ask first m.now (answer_to site lists m m.now r.who r.ask)

-- a sync that may wait is asked
abbrev pub may_rest_for : CallAsked → Bool
may_rest_for (call.Request r) = may_rest r.ask
may_rest_for other = false

-- the same, but that a sync that may wait may be told before, for this reason
abbrev pub WaitsOr : Type 0 → Site → Histories → Mark → CallAsked → ℕ → Type 0
WaitsOr Reason site lists m asks first = WaitsFor site lists m asks first ⊎ ((may_rest_for asks ≡ true) × Reason)

-- the last of its readings is the mark's
pub record IsRead (Reason : Type 0) (site : Site) (lists : Histories) (asks : CallAsked) (m : Mark) (r : CallReadings) : Type 0 where
  pub last_is : last_of r.first r.more ≡ m.now
  pub waits : WaitsOr Reason site lists m asks r.first

-- a reason that the last of some calls has, behind which these follow
abbrev pub OfLast : Type 0 → List Call → Type 0
OfLast Reason [] = Reason
OfLast Reason (c ∷ calls) = ⊥

-- each call with its mark has its readings, and the last one may have this reason
abbrev pub AreRead : Type 0 → Site → Histories → List Call → List Mark → List CallReadings → Type 0
AreRead Reason site all [] [] [] = ⊤
AreRead Reason site all (c ∷ calls) (m ∷ marks) (r ∷ rs) =
    IsRead (OfLast Reason calls) site (first_of all (counts m)) (call_asked site.users c) m r × AreRead Reason site all calls marks rs
AreRead Reason site all [] (m ∷ marks) rs = ⊥
AreRead Reason site all (c ∷ calls) [] rs = ⊥
AreRead Reason site all [] [] (r ∷ rs) = ⊥
AreRead Reason site all (c ∷ calls) (m ∷ marks) [] = ⊥

-- ---- one exchange, and all

-- of one exchange, on what its pass has then seen
pub record TalliesBy (Reason : Type 0) (site : Site) (lists : Histories) (asks : CallAsked) (m : Mark) (old new : Tally) : Type 0 where
  pub made_is : new.made ≡ made_by site asks m old.made
  pub looked : LooksAfter (looks_for asks m) old.looks new.looks
  pub read : CallReadings
  pub is_read : IsRead Reason site lists asks m read
  pub readings_are : new.readings ≡ old.readings ++ readings_of read

-- the same once the clock was read for the request
pub record TalliesOn (Reason : Type 0) (site : Site) (lists : Histories) (asks : CallAsked) (m : Mark) (first : ℕ) (old new : Tally) : Type 0 where
  pub made_is : new.made ≡ made_by site asks m old.made
  pub looked : LooksAfter (looks_for asks m) old.looks new.looks
  pub read : ReadsOn old.readings new.readings first m.now
  pub waits : WaitsOr Reason site lists m asks first

-- Of the calls of a connection with their marks: the stores that were made are the own writes of the marks, in order, and no pass was split
-- off; each call whose answer looks at the streams has a look of its own; and the readings of the clock are those of the calls, in order,
-- of which each has one or more; the last one may be a sync that is told before its time, for this reason
pub record Tallies (Reason : Type 0) (site : Site) (all : Histories) (calls : List Call) (marks : List Mark) (old new : Tally) : Type 0 where
  pub made_is : new.made ≡ made_over site calls marks old.made
  pub looked : LooksAfter (looks_over site.users calls marks) old.looks new.looks
  pub reads : List CallReadings
  pub are_read : AreRead Reason site all calls marks reads
  pub readings_are : new.readings ≡ old.readings ++ readings_in reads
