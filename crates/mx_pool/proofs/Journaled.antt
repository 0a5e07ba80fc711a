-- A run on a journal.
use Rattle.std.proofs.Common.{◌≡◌, ◌⊎◌, ℕ, List, [], Option, Some, None, IfSome, IsSome, inl, inr, refl, sym, ◌∙◌, subst}
use Rattle.std.proofs.Math.Logic.{∥∥₁_map}
use Rattle.std.specs.Prelude.{⊤}
use Rattle.mx_ids.specs.Memory.{refused_memory}
use Rattle.mx_ids.specs.declared.users.Users.{Users}
use Rattle.mx_serve.specs.Aims.Asked.{Site}
use Rattle.mx_fold.specs.Lists.{AreLawful, Grows, Histories}
use Rattle.mx_serve.specs.OfEngine.Answers.{Stops, counts_of}
use Rattle.mx_serve.specs.OfEngine.Places.{IsAlone}
use Rattle.mx_serve.specs.OfEngine.Shown.{Looks, stores_of}
use Rattle.mx_serve.specs.OfEngine.Written.{Made}
use Rattle.mx_serve.specs.OfEngine.EnginePass.{EnginePass}
use Rattle.mx_http.specs.declared.call.Call.{Call}
use Rattle.mx_outside.specs.Causes.{Rose}
use Rattle.mx_restore.specs.Faults.{HasCause}
use Rattle.mx_restore.specs.Restored.{Begins}
use Rattle.mx_restore.specs.declared.wrong.RestoreFault.{RestoreFault}
use Rattle.mx_restore.specs.declared.wrong.RestoreFault.TheVariants as restore
use Rattle.mx_serve.proofs.Chaining.{connections_agree}
use Rattle.mx_serve.specs.Rooms.{AreValid}
use Rattle.mx_serve.specs.Sessions.{InputFaults, IsServed, OutputFaults, moment}
use Rattle.mx_serve.specs.Tallies.{tally}
use Rattle.mx_serve.specs.declared.ended.End.{End}
use Rattle.mx_serve.specs.declared.ended.End.TheVariants as end
use Rattle.mx_serve.specs.declared.ended.Ended.{Ended}
use Rattle.mx_pool.specs.Connections.{Change, Clocked, Ends, Service, change}
use Rattle.mx_pool.specs.Lines.{Tells, line_of, shown}
use Rattle.mx_pool.specs.Runs.{Arrivals, Beginning, HasNone, HasRisen, HasServedFrom, HasUsers, IsCause, IsIdle, IsKeptCause, IsKeptEnd, ListenerRose, RanModeOn, RanPipeOn, ServesAt, ServesFrom, ServesOn, TellsListened, TellsNone, TellsOn, TellsPipeOn, TellsUnmade, Untouched, World, arrivals, kept_stops, server_status, service_with, site_for, status_for, status_of}
use Rattle.mx_pool.specs.Serving.{HasNoneLeft, HasServed, IsServerStatus}
use Rattle.mx_pool.specs.declared.serving.Served.{Served}
use Rattle.mx_pool.specs.declared.status.JournalFault.TheVariants as lacks
use Rattle.mx_pool.specs.declared.status.Status.{Status}
use Rattle.mx_pool.specs.declared.status.Status.TheVariants as status
use Rattle.mx_words.specs.Words.{Loop, Pipe, Said, Serve, Way}
use Rattle.mx_serve.proofs.Alone.{stores_are_own}
use Rattle.mx_serve.proofs.OfEngine.Alone.{has_all}
use Rattle.mx_serve.specs.OfEngine.Places.{HasAll}

-- ---- no engine

-- why there are no users is why there is no engine
pub kept_cause : (told : Option (List ℕ)) (faults logs : Change ℕ) (s : Status) → IsCause told faults s → IsKeptCause told faults logs s
kept_cause told faults logs status.Done cause = cause
kept_cause told faults logs status.RequestStream cause = cause
kept_cause told faults logs status.Usage cause = cause
kept_cause told faults logs (status.UsersFile n) cause = cause
kept_cause told faults logs status.Outside cause = cause
kept_cause told faults logs (status.Memory _) cause = tt
kept_cause told faults logs status.Listener cause = cause
kept_cause told faults logs (status.Journal fault) cause = absurd cause

abbrev pub IsUnopened : Status → Type 0
IsUnopened (status.Journal lacks.Busy) = ⊤
IsUnopened (status.Journal lacks.Failed) = ⊤
IsUnopened other = ⊥

-- a journal that is in use, or failed, is one whose count of faults rose
pub unopened_rose : (fault : RestoreFault) (before after : ℕ) (s : Status) → (s ≡ status_for fault) ⊎ (s ≡ status.Memory refused_memory) → HasCause fault before after → IsUnopened s → Rose before after
unopened_rose restore.Failed before after s is cause unopened = cause
unopened_rose restore.Busy before after s is cause unopened = cause
unopened_rose (restore.Line n wrong) before after s (inl is) cause unopened = absurd (subst IsUnopened is unopened)
unopened_rose (restore.Line n wrong) before after s (inr is) cause unopened = absurd (subst IsUnopened is unopened)
unopened_rose (restore.Memory m) before after s (inl is) cause unopened = absurd (subst IsUnopened is unopened)
unopened_rose (restore.Memory m) before after s (inr is) cause unopened = absurd (subst IsUnopened is unopened)

-- no journal, or no memory
pub unmade_cause : (told : Option (List ℕ)) (faults logs : Change ℕ) (name : List ℕ) (old new : Option (List ℕ)) (f h : ℕ) (s : Status) → TellsUnmade name old new f h s
    → (IsUnopened s → HasRisen logs) → IsKeptCause told faults logs s
unmade_cause told faults logs name old new f h status.Done told' rose = absurd told'
unmade_cause told faults logs name old new f h status.RequestStream told' rose = absurd told'
unmade_cause told faults logs name old new f h status.Usage told' rose = absurd told'
unmade_cause told faults logs name old new f h (status.UsersFile n) told' rose = absurd told'
unmade_cause told faults logs name old new f h status.Outside told' rose = absurd told'
unmade_cause told faults logs name old new f h (status.Memory _) told' rose = tt
unmade_cause told faults logs name old new f h status.Listener told' rose = absurd told'
unmade_cause told faults logs name old new f h (status.Journal lacks.Busy) told' rose = rose tt
unmade_cause told faults logs name old new f h (status.Journal lacks.Failed) told' rose = rose tt
unmade_cause told faults logs name old new f h (status.Journal (lacks.Line n)) told' rose = tt

-- the line of a status, or of want of memory for it
pub unmade_by : (name about : List ℕ) (old new : Option (List ℕ)) (f h : ℕ) (s t : Status) → (t ≡ s) ⊎ (t ≡ status.Memory refused_memory)
    → (Tells old new f h (line_of s (Some (shown about))) → TellsUnmade name old new f h s) → Tells old new f h (line_of t (Some (shown about))) → TellsUnmade name old new f h t
unmade_by name about old new f h s t (inl is) so line = subst (λ u. TellsUnmade name old new f h u) (sym is) (so (subst (λ u. Tells old new f h (line_of u (Some (shown about)))) is line))
unmade_by name about old new f h s t (inr is) so line = subst (λ u. TellsUnmade name old new f h u) (sym is) (subst (λ u. Tells old new f h (line_of u (Some (shown about)))) is line)

-- the line of a users file
pub none_unread : (told : Option (List ℕ)) (faults : Change ℕ) (file name : List ℕ) (old new : Option (List ℕ)) (f h : ℕ) (s : Status) → IsCause told faults s
    → Tells old new f h (line_of s (Some (shown file))) → TellsNone file name old new f h s
none_unread told faults file name old new f h status.Done cause line = absurd cause
none_unread told faults file name old new f h status.RequestStream cause line = absurd cause
none_unread told faults file name old new f h status.Usage cause line = absurd cause
none_unread told faults file name old new f h (status.UsersFile n) cause line = line
none_unread told faults file name old new f h status.Outside cause line = line
none_unread told faults file name old new f h (status.Memory _) cause line = line
none_unread told faults file name old new f h status.Listener cause line = absurd cause
none_unread told faults file name old new f h (status.Journal fault) cause line = absurd cause

-- or of a journal
pub none_unmade : (file name : List ℕ) (old new : Option (List ℕ)) (f h : ℕ) (s : Status) → TellsUnmade name old new f h s → TellsNone file name old new f h s
none_unmade file name old new f h status.Done told = told
none_unmade file name old new f h status.RequestStream told = told
none_unmade file name old new f h status.Usage told = told
none_unmade file name old new f h (status.UsersFile n) told = absurd told
none_unmade file name old new f h status.Outside told = absurd told
none_unmade file name old new f h (status.Memory _) told = told
none_unmade file name old new f h status.Listener told = told
none_unmade file name old new f h (status.Journal fault) told = told

-- ---- a run that serves nothing

kept_end : (told : Option (List ℕ)) (faults logs : Change ℕ) (s : Status) → IsKeptCause told faults logs s → IsKeptEnd told faults logs s
kept_end told faults logs status.Done cause = absurd cause
kept_end told faults logs status.RequestStream cause = cause
kept_end told faults logs status.Usage cause = cause
kept_end told faults logs (status.UsersFile n) cause = cause
kept_end told faults logs status.Outside cause = cause
kept_end told faults logs (status.Memory _) cause = cause
kept_end told faults logs status.Listener cause = absurd cause
kept_end told faults logs (status.Journal fault) cause = cause

pub ran_unmade : (listen : Option (List ℕ)) (name : List ℕ) (said : Said) (w : World) (s t : Status) (c : Option (Ended × EnginePass)) → c ≡ None → t ≡ s → Untouched w.left w.written w.clock
    → IsKeptCause (w.file said.users) w.file_faults w.journal_faults s → RanModeOn listen name said w t c
ran_unmade None name said w s t c none is still cause =
    subst (λ x. RanPipeOn name said w t x) (sym none) (still, subst (IsKeptCause (w.file said.users) w.file_faults w.journal_faults) (sym is) cause)
ran_unmade (Some address) name said w s t c none is still cause = (none, still, subst (IsKeptEnd (w.file said.users) w.file_faults w.journal_faults) (sym is) (kept_end (w.file said.users) w.file_faults w.journal_faults s cause))

pub kept_done : (told : Option (List ℕ)) (faults logs : Change ℕ) (s t : Status) → t ≡ s → IsKeptCause told faults logs s → t ≡ status.Done → ⊥
kept_done told faults logs s t is cause done = subst (IsKeptCause told faults logs) (sym is ∙ done) cause

pub kept_listener : (told : Option (List ℕ)) (faults logs : Change ℕ) (s t : Status) → t ≡ s → IsKeptCause told faults logs s → t ≡ status.Listener → ⊥
kept_listener told faults logs s t is cause listener = subst (IsKeptCause told faults logs) (sym is ∙ listener) cause

pub told_unmade : (listen : Option (List ℕ)) (file name : List ℕ) (c : Option (Ended × EnginePass)) (old new : Option (List ℕ)) (f h : ℕ) (s t : Status) → c ≡ None → t ≡ s → TellsNone file name old new f h s
    → TellsOn listen file name c old new f h t
told_unmade None file name c old new f h s t none is told =
    subst (λ x. TellsPipeOn file name x old new f h t) (sym none) (subst (λ u. TellsNone file name old new f h u) (sym is) told)
told_unmade (Some address) file name c old new f h s t none is told = inl (subst (λ u. TellsNone file name old new f h u) (sym is) told)

-- ---- a connection

module _ (b : Beginning) (left written : Change (Option (List ℕ))) (reads writes : Change ℕ) (clock : Change Clocked) (ended : Ended) (p : EnginePass) where
  -- a connection from a beginning
  pub serves_from : (site : Site) (limit : ℕ) (looks : Looks) (s : Status)
      → ((calls : List Call) × IsServed site b.stops limit
      (moment [] left.before written.before b.lists clock.before.last (record { made = b.made; looks = looks; readings = clock.before.readings }))
      (moment [] left.after written.after (stores_of p) clock.after.last (tally p clock.after.readings)) calls ended.marks ended.end)
      → HasAll b.made b.lists → AreValid (stores_of p) ended.marks → AreLawful (stores_of p) → InputFaults ended.end reads.before reads.after → OutputFaults ended.end writes.before writes.after → s ≡ status_of ended.end
      → ServesFrom b site.users site.writers limit left written reads writes clock s ended p
  serves_from site limit looks s h all valid lawful input output is = record {
    calls = h.0;
    looks = looks;
    served = h.1;
    read_faults = input;
    write_faults = output;
    status_is = is;
    valid = valid;
    headline = connections_agree site b.stops (stores_of p) (counts_of b.lists) h.0 ended.marks h.1.turns lawful;
    alone = stores_are_own site b.stops limit
        (moment [] left.before written.before b.lists clock.before.last (record { made = b.made; looks = looks; readings = clock.before.readings }))
        (moment [] left.after written.after (stores_of p) clock.after.last (tally p clock.after.readings)) h.0 ended.marks ended.end h.1 all (has_all p);
  }

-- in mode `pipe` it was served on the journal's engine
pub ran_pipe_on : (listen : Option (List ℕ)) (name : List ℕ) (said : Said) (w : World) (s : Status) (c : Option (Ended × EnginePass)) (site : Site) (b : Beginning) (limit : ℕ) → listen ≡ None
    → ((users : Users) × HasUsers (w.file said.users) users × (site ≡ site_for users said.workers)) → b.stops ≡ kept_stops → limit ≡ said.requests → Begins (w.journal name) b.lists → IsAlone b.made
    → IsSome c → IfSome c (λ c. ServesFrom b site.users site.writers limit w.left w.written w.read_faults w.write_faults w.clock s c.0 c.1) → RanModeOn listen name said w s c
ran_pipe_on listen name said w s None site b limit at users stops same stores alone some served = absurd cc
ran_pipe_on listen name said w s (Some c) site b limit at users stops same stores alone some served =
    subst (λ l. RanModeOn l name said w s (Some c)) (sym at) (
      users.0,
      users.1,
      b,
      record { stops_are = stops; stores = stores; alone = alone },
      subst (λ (k : Site × ℕ). ServesFrom b k.0.users k.0.writers k.1 w.left w.written w.read_faults w.write_faults w.clock s c.0 c.1) (λ i. (users.2 i, same i)) served,
    )

pub told_pipe_on : (listen : Option (List ℕ)) (file name : List ℕ) (c : Option (Ended × EnginePass)) (old new : Option (List ℕ)) (f h : ℕ) (s : Status) → listen ≡ None → IsSome c → Tells old new f h (line_of s None)
    → TellsOn listen file name c old new f h s
told_pipe_on listen file name None old new f h s at some told = absurd cc
told_pipe_on listen file name (Some c) old new f h s at some told = subst (λ l. TellsOn l file name (Some c) old new f h s) (sym at) told

-- whose status is no server's
pub served_listener : (b : Beginning) (users : Users) (workers limit : ℕ) (left written : Change (Option (List ℕ))) (reads writes : Change ℕ) (clock : Change Clocked) (s : Status) (c : Option (Ended × EnginePass))
    → IsSome c → IfSome c (λ c. ServesFrom b users workers limit left written reads writes clock s c.0 c.1) → s ≡ status.Listener → ⊥
served_listener b users workers limit left written reads writes clock s None some served is = absurd cc
served_listener b users workers limit left written reads writes clock s (Some c) some served is = go c.0.end (sym served.status_is ∙ is)
  where
    go : (e : End) → status_of e ≡ status.Listener → ⊥
    go end.Closed e = cc
    go end.Asked e = cc
    go end.Full e = cc
    go end.Cut e = cc
    go (end.Refused _) e = cc
    go end.ReadFault e = cc
    go end.WriteFault e = cc
    go (end.Memory _) e = cc

pub idle_on : {L P : Type 0} (left : L → Option (List P)) (ends : P → Ends) (way : Way) (told : Option (List ℕ)) (said : Said) (file : List ℕ → Option (List ℕ)) (came : Arrivals P) (s : Status) → way ≡ Pipe
    → IsIdle came → ServesOn way told said file left ends came s
idle_on left ends way told said file came s at idle = subst (λ w. ServesOn w told said file left ends came s) (sym at) idle

-- ---- a server

module _ {L P : Type 0} (left : L → Option (List P)) (ends : P → Ends) (service : Service) (lists : Histories) where
  -- no connection was begun where no address is bound
  pub from_none : (pairs after : Option (List P)) (starts : ℕ) (s : Status) → after ≡ pairs → (s ≡ status.Done → ⊥)
      → HasNone (arrivals (change pairs after) (change starts starts)) s ⊎ ∥ HasServedFrom service lists left ends (arrivals (change pairs after) (change starts starts)) s ∥₁
  from_none pairs after starts s same other = inl (record { pairs_are = same; starts_are = refl }, other)

  -- or those were that came since
  pub from_bound : (pairs bound after : Option (List P)) (starts : Change ℕ) (how : Served) (s : Status) (seen : Histories) → bound ≡ pairs → s ≡ server_status how
      → ∥ HasServed service left ends (change bound after) starts how seen ∥₁ → Grows lists seen
      → HasNone (arrivals (change pairs after) starts) s ⊎ ∥ HasServedFrom service lists left ends (arrivals (change pairs after) starts) s ∥₁
  from_bound pairs bound after starts how s seen same is h grows =
      inr (∥∥₁_map h (λ x. (how, is, seen, subst (λ (l : Option (List P)). HasServed service left ends (change l after) starts how seen) same x, grows)))

  -- at an address, for the users of the file
  pub on_address : (way : Way) (address : List ℕ) (told : Option (List ℕ)) (said : Said) (file : List ℕ → Option (List ℕ)) (came : Arrivals P) (s t : Status) (users : Users) → Serve address ≡ way → t ≡ s
      → HasUsers (file said.users) users → service ≡ service_with kept_stops users said.workers said.requests → Begins told lists
      → (HasNone came s ⊎ ∥ HasServedFrom service lists left ends came s ∥₁) → ServesOn way told said file left ends came t
  on_address way address told said file came s t users at is has are stores h =
      subst (λ w. ServesOn w told said file left ends came t) at (subst (λ u. ServesOn (Serve address) told said file left ends came u) (sym is) (go h))
    where
      go : (HasNone came s ⊎ ∥ HasServedFrom service lists left ends came s ∥₁) → ServesOn (Serve address) told said file left ends came s
      go (inl none) = inl none
      go (inr h) = inr (users, has, ∥∥₁_map h (λ x. (lists, stores, subst (λ (v : Service). HasServedFrom v lists left ends came s) are x)))

-- what a server is, by what its engine is made for
pub service_on : (site : Site) (stops : Stops) (n : ℕ) (users : Users) (workers limit : ℕ) → site ≡ site_for users workers → stops ≡ kept_stops → n ≡ limit
    → ◌≡◌ {A = Service} (record { site = site; stops = stops; limit = n }) (service_with kept_stops users workers limit)
service_on site stops n users workers limit a b c = λ i. record { site = a i; stops = b i; limit = c i }

server_end : (told : Option (List ℕ)) (faults logs : Change ℕ) (users : Users) (s : Status) → HasUsers told users → IsServerStatus s → IsKeptEnd told faults logs s
server_end told faults logs users status.Done has only = (users, has)
server_end told faults logs users status.RequestStream has only = absurd only
server_end told faults logs users status.Usage has only = absurd only
server_end told faults logs users (status.UsersFile n) has only = absurd only
server_end told faults logs users status.Outside has only = absurd only
server_end told faults logs users (status.Memory _) has only = tt
server_end told faults logs users status.Listener has only = (users, has)
server_end told faults logs users (status.Journal fault) has only = absurd only

pub ran_server_on : (listen : Option (List ℕ)) (address name : List ℕ) (said : Said) (w : World) (s t : Status) (c : Option (Ended × EnginePass)) (users : Users) → Some address ≡ listen → c ≡ None → t ≡ s
    → Untouched w.left w.written w.clock → HasUsers (w.file said.users) users → IsServerStatus s → RanModeOn listen name said w t c
ran_server_on listen address name said w s t c users at none is still has only =
    subst (λ l. RanModeOn l name said w t c) at (none, still, subst (IsKeptEnd (w.file said.users) w.file_faults w.journal_faults) (sym is) (server_end (w.file said.users) w.file_faults w.journal_faults users s has only))

pub closed_on : {P Q : Type 0} (way : Way) (address : List ℕ) (left : Option (List P)) (ports : Option (List Q)) → Serve address ≡ way → HasNoneLeft left → ServesAt way left ports
closed_on way address left ports at h = subst (λ w. ServesAt w left ports) at h

pub closed_loops : {P Q : Type 0} (way : Way) (address : List ℕ) (left : Option (List P)) (ports : Option (List Q)) → Loop address ≡ way → HasNoneLeft ports → ServesAt way left ports
closed_loops way address left ports at h = subst (λ w. ServesAt w left ports) at h

pub rose_on : (way : Way) (address : List ℕ) (listener spawner ports : Change ℕ) → Serve address ≡ way → HasRisen listener ⊎ HasRisen spawner → ListenerRose way listener spawner ports
rose_on way address listener spawner ports at h = subst (λ w. ListenerRose w listener spawner ports) at h

pub rose_loops : (way : Way) (address : List ℕ) (listener spawner ports : Change ℕ) → Loop address ≡ way → HasRisen ports → ListenerRose way listener spawner ports
rose_loops way address listener spawner ports at h = subst (λ w. ListenerRose w listener spawner ports) at h

pub told_server_on : (listen : Option (List ℕ)) (address file name : List ℕ) (c : Option (Ended × EnginePass)) (old new : Option (List ℕ)) (f h : ℕ) (s t : Status) → Some address ≡ listen → t ≡ s
    → TellsListened address old new f h s → TellsOn listen file name c old new f h t
told_server_on listen address file name c old new f h s t at is told =
    subst (λ l. TellsOn l file name c old new f h t) at (inr (subst (λ u. TellsListened address old new f h u) (sym is) told))
