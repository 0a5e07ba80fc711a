-- What a run did, in its parts.
use Rattle.std.specs.Io.KnownBytes.{Appends}
use Rattle.std.proofs.Common.{◌≡◌, ℕ, zero, suc, ◌≤◌, ◌⊎◌, inl, inr, List, [], ◌∷◌, ◌++◌, take, Option, Some, None, Ok, Err, IfSome, length, refl, sym, ap, ◌∙◌, subst, arith}
use Rattle.std.proofs.KnownBytes.{Appends-trans}
use Rattle.mx_outside.specs.Causes.{Rose}
use Rattle.mx_outside.specs.Moves.{IsLonger}
use Rattle.mx_serve.specs.OfEngine.EnginePass.{EnginePass}
use Rattle.mx_ids.specs.Memory.{refused_memory}
use Rattle.mx_ids.specs.declared.users.Users.{Users}
use Rattle.mx_users.specs.UsersFile.{users_in}
use Rattle.mx_serve.specs.Sessions.{AppendsPart, InputFaults, OutputFaults}
use Rattle.mx_serve.specs.declared.ended.End.{End}
use Rattle.mx_serve.specs.declared.ended.End.TheVariants as end
use Rattle.mx_serve.specs.declared.ended.Ended.{Ended}
use Rattle.mx_pool.specs.declared.status.Status.{Status}
use Rattle.mx_pool.specs.declared.status.Status.TheVariants as status
use Rattle.mx_pool.specs.Lines.{Tells, line_of, shown}
use Rattle.mx_pool.specs.Serving.{IsServerStatus}
use Rattle.mx_pool.specs.Connections.{Change, Clocked}
use Rattle.mx_pool.specs.Runs.{HasRisen, HasUsers, IsBroken, IsCause, IsPrinted, IsRan, IsKeptCause, IsKeptEnd, IsServerEnd, IsShort, IsUsage, Prints, RanMode, RanModeOn, RanPipe, RanPipeOn, RanWith, ServesUsers, TellsAt, TellsPipe, TellsServer, TellsWith, World, status_of, users_limit}
use Rattle.mx_words.specs.Words.{Help, Meaning, Refused, Said, Says, Version, Wrong, address_in}
use Rattle.mx_serve.proofs.Served.{some-more}

-- the users that were read are those of the file
pub users_read : (told : Option (List ℕ)) (bytes slice : List ℕ) (users : Users) → IfSome told (λ held. bytes ≡ held) → slice ≡ bytes → length bytes ≤ users_limit
    → users_in slice ≡ Ok users → HasUsers told users
users_read None bytes slice users held same within is = tt
users_read (Some file) bytes slice users held same within is = (subst (λ b. length b ≤ users_limit) held within, ap users_in (sym (same ∙ held)) ∙ is)

-- the line that was told is the file's
pub line_read : (told : Option (List ℕ)) (bytes slice : List ℕ) (line : ℕ) → IfSome told (λ held. bytes ≡ held) → slice ≡ bytes → users_in slice ≡ Err line → IfSome told (λ held. IsBroken held line)
line_read None bytes slice line held same is = tt
line_read (Some file) bytes slice line held same is = inr (ap users_in (sym (same ∙ held)) ∙ is)

-- a connection that ended with this status had a fault
ended_outside : (reads writes : Change ℕ) (e : End) → InputFaults e reads.before reads.after → OutputFaults e writes.before writes.after → status_of e ≡ status.Outside → HasRisen reads ⊎ HasRisen writes
ended_outside reads writes end.Closed i o is = absurd cc
ended_outside reads writes end.Asked i o is = absurd cc
ended_outside reads writes end.Full i o is = absurd cc
ended_outside reads writes end.Cut i o is = absurd cc
ended_outside reads writes (end.Refused _) i o is = absurd cc
ended_outside reads writes end.ReadFault i o is = inl i.1
ended_outside reads writes end.WriteFault i o is = inr o.1
ended_outside reads writes (end.Memory _) i o is = absurd cc

pipe_outside : (said : Said) (w : World) (s : Status) (c : Option (Ended × EnginePass)) → RanPipe said w s c → s ≡ status.Outside → HasRisen w.file_faults ⊎ (HasRisen w.read_faults ⊎ HasRisen w.write_faults)
pipe_outside said w s None r is = inl (subst (IsCause (w.file said.users) w.file_faults) is r.1)
pipe_outside said w s (Some c) r is = inr (ended_outside w.read_faults w.write_faults c.0.end r.2.read_faults r.2.write_faults (sym r.2.status_is ∙ is))

mode_outside : (listen : Option (List ℕ)) (said : Said) (w : World) (s : Status) (c : Option (Ended × EnginePass)) → RanMode listen said w s c → s ≡ status.Outside → HasRisen w.file_faults ⊎ (HasRisen w.read_faults ⊎ HasRisen w.write_faults)
mode_outside None said w s c r is = pipe_outside said w s c r is
mode_outside (Some address) said w s c r is = inl (subst (IsServerEnd (w.file said.users) w.file_faults) is r.2)

-- the same on a journal
pipe_on_outside : (name : List ℕ) (said : Said) (w : World) (s : Status) (c : Option (Ended × EnginePass)) → RanPipeOn name said w s c → s ≡ status.Outside → HasRisen w.file_faults ⊎ (HasRisen w.read_faults ⊎ HasRisen w.write_faults)
pipe_on_outside name said w s None r is = inl (subst (IsKeptCause (w.file said.users) w.file_faults w.journal_faults) is r.1)
pipe_on_outside name said w s (Some c) r is = inr (ended_outside w.read_faults w.write_faults c.0.end r.4.read_faults r.4.write_faults (sym r.4.status_is ∙ is))

mode_on_outside : (listen : Option (List ℕ)) (name : List ℕ) (said : Said) (w : World) (s : Status) (c : Option (Ended × EnginePass)) → RanModeOn listen name said w s c → s ≡ status.Outside → HasRisen w.file_faults ⊎ (HasRisen w.read_faults ⊎ HasRisen w.write_faults)
mode_on_outside None name said w s c r is = pipe_on_outside name said w s c r is
mode_on_outside (Some address) name said w s c r is = inl (subst (IsKeptEnd (w.file said.users) w.file_faults w.journal_faults) is r.2)

with_outside : (journal : Option (List ℕ)) (said : Said) (w : World) (s : Status) (c : Option (Ended × EnginePass)) → RanWith journal said w s c → s ≡ status.Outside → HasRisen w.file_faults ⊎ (HasRisen w.read_faults ⊎ HasRisen w.write_faults)
with_outside None said w s c r is = mode_outside (address_in said.way) said w s c r is
with_outside (Some name) said w s c r is = mode_on_outside (address_in said.way) name said w s c r is

-- no run ends with both
memory_outside : (s : Status) → s ≡ status.Memory refused_memory → s ≡ status.Outside → ⊥
memory_outside s memory is = other (sym memory ∙ is)
  where
    other : ◌≡◌ {A = Status} (status.Memory refused_memory) status.Outside → ⊥
    other e = cc

refused_outside : (s : Status) → (s ≡ status.Usage) ⊎ (s ≡ status.Memory refused_memory) → s ≡ status.Outside → ⊥
refused_outside s (inl usage) is = other (sym usage ∙ is)
  where
    other : ◌≡◌ {A = Status} status.Usage status.Outside → ⊥
    other e = cc
refused_outside s (inr memory) is = memory_outside s memory is

printed_outside : (w : World) (s : Status) → Prints w.written w.write_faults s → s ≡ status.Outside → HasRisen w.write_faults
printed_outside w s (text, inl done) is = absurd (other (sym done.0 ∙ is))
  where
    other : ◌≡◌ {A = Status} status.Done status.Outside → ⊥
    other e = cc
printed_outside w s (text, inr failed) is = failed.1

-- what was asked to be printed, or was short of memory
text_outside : (w : World) (s : Status) (c : Option (Ended × EnginePass)) → IsShort w s c ⊎ IsPrinted w s c → s ≡ status.Outside → HasRisen w.file_faults ⊎ (HasRisen w.read_faults ⊎ HasRisen w.write_faults)
text_outside w s c (inl short) is = absurd (memory_outside s short.0 is)
text_outside w s c (inr printed) is = inr (inr (printed_outside w s printed.prints is))

-- the status `Outside` comes only where a count rose
pub ran_outside : (asked : Meaning) (w : World) (s : Status) (c : Option (Ended × EnginePass)) → IsRan asked w s c → s ≡ status.Outside → HasRisen w.file_faults ⊎ (HasRisen w.read_faults ⊎ HasRisen w.write_faults)
ran_outside (Says said) w s c (inl short) is = absurd (memory_outside s short.0 is)
ran_outside (Says said) w s c (inr r) is = with_outside said.journal said w s c r is
ran_outside Help w s c r is = text_outside w s c r is
ran_outside Version w s c r is = text_outside w s c r is
ran_outside Refused w s c r is = absurd (refused_outside s r.0 is)
ran_outside (Wrong why) w s c r is = absurd (refused_outside s r.0 is)

ended_usage : (e : End) → status_of e ≡ status.Usage → ⊥
ended_usage end.Closed is = cc
ended_usage end.Asked is = cc
ended_usage end.Full is = cc
ended_usage end.Cut is = cc
ended_usage (end.Refused _) is = cc
ended_usage end.ReadFault is = cc
ended_usage end.WriteFault is = cc
ended_usage (end.Memory _) is = cc

pipe_usage : (said : Said) (w : World) (s : Status) (c : Option (Ended × EnginePass)) → RanPipe said w s c → s ≡ status.Usage → ⊥
pipe_usage said w s None r is = subst (IsCause (w.file said.users) w.file_faults) is r.1
pipe_usage said w s (Some c) r is = ended_usage c.0.end (sym r.2.status_is ∙ is)

mode_usage : (listen : Option (List ℕ)) (said : Said) (w : World) (s : Status) (c : Option (Ended × EnginePass)) → RanMode listen said w s c → s ≡ status.Usage → ⊥
mode_usage None said w s c r is = pipe_usage said w s c r is
mode_usage (Some address) said w s c r is = subst (IsServerEnd (w.file said.users) w.file_faults) is r.2

pipe_on_usage : (name : List ℕ) (said : Said) (w : World) (s : Status) (c : Option (Ended × EnginePass)) → RanPipeOn name said w s c → s ≡ status.Usage → ⊥
pipe_on_usage name said w s None r is = subst (IsKeptCause (w.file said.users) w.file_faults w.journal_faults) is r.1
pipe_on_usage name said w s (Some c) r is = ended_usage c.0.end (sym r.4.status_is ∙ is)

mode_on_usage : (listen : Option (List ℕ)) (name : List ℕ) (said : Said) (w : World) (s : Status) (c : Option (Ended × EnginePass)) → RanModeOn listen name said w s c → s ≡ status.Usage → ⊥
mode_on_usage None name said w s c r is = pipe_on_usage name said w s c r is
mode_on_usage (Some address) name said w s c r is = subst (IsKeptEnd (w.file said.users) w.file_faults w.journal_faults) is r.2

with_usage : (journal : Option (List ℕ)) (said : Said) (w : World) (s : Status) (c : Option (Ended × EnginePass)) → RanWith journal said w s c → s ≡ status.Usage → ⊥
with_usage None said w s c r is = mode_usage (address_in said.way) said w s c r is
with_usage (Some name) said w s c r is = mode_on_usage (address_in said.way) name said w s c r is

memory_usage : (s : Status) → s ≡ status.Memory refused_memory → s ≡ status.Usage → ⊥
memory_usage s memory is = other (sym memory ∙ is)
  where
    other : ◌≡◌ {A = Status} (status.Memory refused_memory) status.Usage → ⊥
    other e = cc

text_usage : (w : World) (s : Status) (c : Option (Ended × EnginePass)) → IsShort w s c ⊎ IsPrinted w s c → s ≡ status.Usage → ⊥
text_usage w s c (inl short) is = memory_usage s short.0 is
text_usage w s c (inr printed) is = go printed.prints
  where
    done : ◌≡◌ {A = Status} status.Done status.Usage → ⊥
    done e = cc

    failed : ◌≡◌ {A = Status} status.Outside status.Usage → ⊥
    failed e = cc

    go : Prints w.written w.write_faults s → ⊥
    go (text, inl p) = done (sym p.0 ∙ is)
    go (text, inr p) = failed (sym p.0 ∙ is)

-- the status `Usage` comes exactly where the words aren't of their form
pub ran_usage : (asked : Meaning) (w : World) (s : Status) (c : Option (Ended × EnginePass)) → IsRan asked w s c → IsUsage asked s
ran_usage (Says said) w s c (inl short) = memory_usage s short.0
ran_usage (Says said) w s c (inr r) = with_usage said.journal said w s c r
ran_usage Help w s c r = text_usage w s c r
ran_usage Version w s c r = text_usage w s c r
ran_usage Refused w s c r = r.0
ran_usage (Wrong why) w s c r = r.0

-- a text that was put, and what tells the rest
pub tells_more : (old mid new : Option (List ℕ)) (f g h : ℕ) (text more : List ℕ) → Appends old mid text → f ≤ g → Tells mid new g h more → Tells old new f h (text ++ more)
tells_more old mid new f g h text more put count (inl r) = inl (Appends-trans old mid new text more put r)
tells_more old mid new f g h text more put count (inr r) = let rose : Rose f h = omega (arith, count, r.0) in inr (rose, some-more old mid new text more put r.1)

-- a part of a text is a part of a longer one
take-part : (n : ℕ) (text more : List ℕ) → (m : ℕ) × (take n text ≡ take m (text ++ more))
take-part zero text more = (0, refl)
take-part (suc n) [] more = (0, refl)
take-part (suc n) (x ∷ text) more = let rest = take-part n text more in (suc rest.0, ap (λ l. x ∷ l) rest.1)

pub tells_part : (old new : Option (List ℕ)) (f h : ℕ) (text more : List ℕ) → AppendsPart old new text → Rose f h → Tells old new f h (text ++ more)
tells_part old new f h text more p rose = let part = take-part p.0 text more in inr (rose, (part.0, subst (λ l. Appends old new l) part.1 p.1))

-- a file that is too long
pub too_long : (told : Option (List ℕ)) → IsLonger told users_limit → IfSome told (λ held. IsBroken held 0)
too_long None h = tt
too_long (Some file) h = inl (h, refl)

-- a cause that was told, or want of memory for its line
pub told_cause : (told : Option (List ℕ)) (faults : Change ℕ) (s t : Status) → IsCause told faults s → (t ≡ s) ⊎ (t ≡ status.Memory refused_memory) → IsCause told faults t
told_cause told faults s t cause (inl same) = subst (IsCause told faults) (sym same) cause
told_cause told faults s t cause (inr memory) = subst (IsCause told faults) (sym memory) tt

-- the line of a status that only memory can be in the place of
pub same_memory : (s : Status) (a b : Option (List ℕ)) → s ≡ status.Memory refused_memory → line_of s a ≡ line_of s b
same_memory s a b is = subst (λ t. line_of t a ≡ line_of t b) (sym is) refl

-- what was told in mode `pipe` once the users were read
pub tells_served : (users : Users) (workers limit : ℕ) (left written : Change (Option (List ℕ))) (reads writes : Change ℕ) (clock : Change Clocked) (s : Status) (c : Option (Ended × EnginePass))
    → ServesUsers users workers limit left written reads writes clock s c → (file : List ℕ) (old new : Option (List ℕ)) (f h : ℕ) → Tells old new f h (line_of s None) → TellsPipe file c old new f h s
tells_served users workers limit left written reads writes clock s None r file old new f h told = subst (λ l. Tells old new f h l) (same_memory s None (Some (shown file)) r.0) told
tells_served users workers limit left written reads writes clock s (Some c) r file old new f h told = told

-- what was told in mode `pipe` where no connection was served
pub tells_none : (c : Option (Ended × EnginePass)) (s t : Status) (name file : List ℕ) (old new : Option (List ℕ)) (f h : ℕ) → c ≡ None → t ≡ s → name ≡ file
    → Tells old new f h (line_of s (Some (shown name))) → TellsPipe file c old new f h t
tells_none c s t name file old new f h none same is told =
    subst (λ x. TellsPipe file x old new f h t) (sym none)
    (subst (λ (p : Status × List ℕ). Tells old new f h (line_of p.0 (Some (shown p.1)))) (λ i. (sym same i, is i)) told)

-- a server that has no users is none that is done, and its line is of the users file
pub tells_unread : (told : Option (List ℕ)) (faults : Change ℕ) (s : Status) → IsCause told faults s → (file address : List ℕ) (old new : Option (List ℕ)) (f h : ℕ)
    → Tells old new f h (line_of s (Some (shown file))) → TellsServer file address old new f h s
tells_unread told faults status.Done cause file address old new f h line = absurd cause
tells_unread told faults status.RequestStream cause file address old new f h line = absurd cause
tells_unread told faults status.Usage cause file address old new f h line = absurd cause
tells_unread told faults (status.UsersFile n) cause file address old new f h line = inl (line, λ e. cc)
tells_unread told faults status.Outside cause file address old new f h line = inl (line, λ e. cc)
tells_unread told faults (status.Memory _) cause file address old new f h line = inl (line, λ e. cc)
tells_unread told faults status.Listener cause file address old new f h line = absurd cause
tells_unread told faults (status.Journal fault) cause file address old new f h line = absurd cause

-- a server whose address isn't bound
pub tells_unbound : (s : Status) → (s ≡ status.Listener) ⊎ (s ≡ status.Memory refused_memory) → (file address : List ℕ) (old new : Option (List ℕ)) (f h : ℕ)
    → Tells old new f h (line_of s (Some (shown address))) → TellsServer file address old new f h s
tells_unbound s (inl is) file address old new f h line = subst (λ t. TellsServer file address old new f h t) (sym is) (inl (subst (λ t. Tells old new f h (line_of t (Some (shown address)))) is line, λ e. cc))
tells_unbound s (inr is) file address old new f h line = subst (λ t. TellsServer file address old new f h t) (sym is) (inl (subst (λ t. Tells old new f h (line_of t (Some (shown address)))) is line, λ e. cc))

-- nor is its status any that it may not have
pub unbound_status : (s : Status) → (s ≡ status.Listener) ⊎ (s ≡ status.Memory refused_memory) → IsServerStatus s
unbound_status s (inl is) = subst IsServerStatus (sym is) tt
unbound_status s (inr is) = subst IsServerStatus (sym is) tt

pub unbound_done : (s : Status) → (s ≡ status.Listener) ⊎ (s ≡ status.Memory refused_memory) → s ≡ status.Done → ⊥
unbound_done s (inl is) done = other (sym is ∙ done)
  where
    other : ◌≡◌ {A = Status} status.Listener status.Done → ⊥
    other e = cc
unbound_done s (inr is) done = other (sym is ∙ done)
  where
    other : ◌≡◌ {A = Status} (status.Memory refused_memory) status.Done → ⊥
    other e = cc

-- what a server told, where its address and its status stand in other words
pub tells_at : (old new : Option (List ℕ)) (f h : ℕ) (listen : Option (List ℕ)) (file address : List ℕ) (c : Option (Ended × EnginePass)) (s t : Status) → Some address ≡ listen → t ≡ s
    → TellsServer file address old new f h s → TellsAt listen file c old new f h t
tells_at old new f h listen file address c s t at is told = subst (λ l. TellsAt l file c old new f h t) at (subst (λ u. TellsServer file address old new f h u) (sym is) told)

-- ---- by the journal of the words

-- what a run without a journal did says nothing of any
pipe_any : (said : Said) (w : World) (f : List ℕ → Option (List ℕ)) (d : Change ℕ) (s : Status) (c : Option (Ended × EnginePass)) → RanPipe said w s c → RanPipe said (record w { journal = f; journal_faults = d }) s c
pipe_any said w f d s None r = r
pipe_any said w f d s (Some c) r = r

mode_any : (listen : Option (List ℕ)) (said : Said) (w : World) (f : List ℕ → Option (List ℕ)) (d : Change ℕ) (s : Status) (c : Option (Ended × EnginePass)) → RanMode listen said w s c → RanMode listen said (record w { journal = f; journal_faults = d }) s c
mode_any None said w f d s c r = pipe_any said w f d s c r
mode_any (Some address) said w f d s c r = r

pub ran_plain : (journal : Option (List ℕ)) (said : Said) (w : World) (f : List ℕ → Option (List ℕ)) (d : Change ℕ) (s : Status) (c : Option (Ended × EnginePass)) → journal ≡ None → RanMode (address_in said.way) said w s c → RanWith journal said (record w { journal = f; journal_faults = d }) s c
ran_plain journal said w f d s c is r = subst (λ j. RanWith j said (record w { journal = f; journal_faults = d }) s c) (sym is) (mode_any (address_in said.way) said w f d s c r)

pub tells_plain : (journal : Option (List ℕ)) (said : Said) (c : Option (Ended × EnginePass)) (old new : Option (List ℕ)) (f h : ℕ) (s : Status) → journal ≡ None → TellsAt (address_in said.way) said.users c old new f h s → TellsWith journal said c old new f h s
tells_plain journal said c old new f h s is r = subst (λ j. TellsWith j said c old new f h s) (sym is) r
