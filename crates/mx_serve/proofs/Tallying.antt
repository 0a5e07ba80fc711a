-- What is made, looked at and read over the calls of a connection, with one call more.
use Rattle.std.proofs.Common.{◌≡◌, ℕ, ◌+◌, ◌||◌, List, [], ◌∷◌, ◌++◌, Bool, true, false, ◌⊎◌, cond, inl, inr, Option, refl, sym, ap, ◌∙◌, subst, arith, append-nil, append_assoc}
use Rattle.std.specs.Io.KnownBytes.{Keeps}
use Rattle.std.proofs.KnownBytes.{Keeps-refl}
use Rattle.mx_http.specs.declared.call.Call.{Call}
use Rattle.mx_ids.specs.Memory.{refused_memory}
use Rattle.mx_fold.specs.Lists.{Grows, Histories}
use Rattle.mx_poll.specs.Acts.Acts.{asked}
use Rattle.mx_poll.specs.Aims.Asked.{Site}
use Rattle.mx_ask.specs.declared.ask.Ask.{Ask}
use Rattle.mx_ask.specs.declared.ask.Who.{Who}
use Rattle.mx_ask.specs.declared.said.Said.TheVariants as said
use Rattle.mx_poll.specs.OfEngine.Answers.{IsAnswered, Stops, counts, counts_of, made_for}
use Rattle.mx_poll.specs.OfEngine.Exchanges.{first_of}
use Rattle.mx_poll.specs.OfEngine.Shown.{Looks, LooksBy, LooksFor, is_whoami, looks_of, made_of, stores_of}
use Rattle.mx_poll.specs.OfEngine.Written.{Made}
use Rattle.mx_poll.specs.OfEngine.Answered.{Answered}
use Rattle.mx_poll.specs.OfEngine.Counts.{Counts}
use Rattle.mx_poll.specs.OfEngine.Mark.{Mark}
use Rattle.mx_poll.specs.OfEngine.EnginePass.{EnginePass}
use Rattle.mx_poll.proofs.OfEngine.Done.{made_wanting, no_made}
use Rattle.mx_poll.proofs.OfEngine.Exchanges.{at_exit, kept_first}
use Rattle.mx_api.specs.declared.refused.Refused.{Refused}
use Rattle.mx_poll.specs.Waits.{HasWaited, ReadsOn, may_rest, wait_of}
use Rattle.mx_poll.proofs.Waited.{waits_none, waits_told}
use Rattle.mx_serve.specs.declared.call_asked.CallAsked.{CallAsked}
use Rattle.mx_serve.specs.declared.call_asked.CallAsked.TheVariants as call
use Rattle.mx_serve.specs.declared.ended.End.TheVariants as end
use Rattle.mx_serve.specs.declared.ended.Step.{Step}
use Rattle.mx_serve.specs.declared.ended.Step.TheVariants as step
use Rattle.mx_serve.specs.Asked.{call_asked}
use Rattle.mx_serve.specs.Exchanges.{AreTurns}
use Rattle.mx_serve.specs.Steps.{Renders, StepTallies, Writes}
use Rattle.mx_serve.specs.Tallies.{AreRead, CallReadings, IsRead, LooksAfter, OfLast, Tallies, TalliesBy, TalliesOn, Tally, WaitsFor, WaitsOr, looks_for, looks_over, made_by, made_over, readings_in, readings_of, tally}
use Rattle.mx_serve.proofs.Growing.{within}
use Rattle.mx_serve.proofs.Responding.{blank}

-- ---- looks

looks_on : (old mid new : Looks) (n k : ℕ) → LooksAfter n old mid → LooksAfter k mid new → LooksAfter (n + k) old new
looks_on old mid new n k h g = record {
  events = omega (arith, h.events, g.events);
  receipts = omega (arith, h.receipts, g.receipts);
  accounts = omega (arith, h.accounts, g.accounts);
}

looks_same : (looks : Looks) → LooksAfter 0 looks looks
looks_same looks = record { events = omega arith; receipts = omega arith; accounts = omega arith }

-- ---- for one reason, or for another

module _ (A B : Type 0) (f : A → B) where
  waits_by : (site : Site) (lists : Histories) (m : Mark) (asks : CallAsked) (first : ℕ) → WaitsOr A site lists m asks first → WaitsOr B site lists m asks first
  waits_by site lists m asks first (inl waits) = inl waits
  waits_by site lists m asks first (inr told) = inr (told.0, f told.1)

  is_read_by : (site : Site) (lists : Histories) (asks : CallAsked) (m : Mark) (r : CallReadings) → IsRead A site lists asks m r → IsRead B site lists asks m r
  is_read_by site lists asks m r h = record { last_is = h.last_is; waits = waits_by site lists m asks r.first h.waits }

  pub tallied_by : (site : Site) (lists : Histories) (asks : CallAsked) (m : Mark) (old new : Tally) → TalliesBy A site lists asks m old new → TalliesBy B site lists asks m old new
  tallied_by site lists asks m old new h = record { made_is = h.made_is; looked = h.looked; read = h.read; is_read = is_read_by site lists asks m h.read h.is_read; readings_are = h.readings_are }

-- one call more has the reason
not_last : (Reason : Type 0) (calls : List Call) (c : Call) → OfLast ⊥ calls → OfLast Reason (calls ++ c ∷ [])
not_last Reason [] c x = x
not_last Reason (d ∷ calls) c x = x

module _ (A B : Type 0) (f : A → B) where
  of_last : (calls : List Call) → OfLast A calls → OfLast B calls
  of_last [] x = f x
  of_last (c ∷ calls) x = x

  are_read_by : (site : Site) (all : Histories) (calls : List Call) (marks : List Mark) (rs : List CallReadings) → AreRead A site all calls marks rs → AreRead B site all calls marks rs
  are_read_by site all [] [] [] are = are
  are_read_by site all (c ∷ calls) (m ∷ marks) (r ∷ rs) are =
      (is_read_by (OfLast A calls) (OfLast B calls) (of_last calls) site (first_of all (counts m)) (call_asked site.users c) m r are.0, are_read_by site all calls marks rs are.1)
  are_read_by site all [] (m ∷ marks) rs are = absurd are
  are_read_by site all (c ∷ calls) [] rs are = absurd are
  are_read_by site all [] [] (r ∷ rs) are = absurd are
  are_read_by site all (c ∷ calls) (m ∷ marks) [] are = absurd are

  pub tallied_for : (site : Site) (all : Histories) (calls : List Call) (marks : List Mark) (old new : Tally) → Tallies A site all calls marks old new → Tallies B site all calls marks old new
  tallied_for site all calls marks old new h = record { made_is = h.made_is; looked = h.looked; reads = h.reads; are_read = are_read_by site all calls marks h.reads h.are_read; readings_are = h.readings_are }

-- ---- nothing was done yet

pub tallied_none : (site : Site) (all : Histories) (t : Tally) → Tallies ⊥ site all [] [] t t
tallied_none site all t = record {
  made_is = refl;
  looked = looks_same t.looks;
  reads = [];
  are_read = tt;
  readings_are = sym (append-nil t.readings);
}

-- ---- one call more

module _ (site : Site) (stops : Stops) where
  made_over-more : (all : Histories) (before : Counts) (calls : List Call) (marks : List Mark) (c : Call) (m : Mark) (made : Made) → AreTurns site stops all before calls marks
      → made_over site (calls ++ c ∷ []) (marks ++ m ∷ []) made ≡ made_by site (call_asked site.users c) m (made_over site calls marks made)
  made_over-more all before [] [] c m made h = refl
  made_over-more all before (d ∷ calls) (n ∷ marks) c m made h = made_over-more all (counts n) calls marks c m (made_by site (call_asked site.users d) n made) h.1
  made_over-more all before (d ∷ calls) [] c m made h = absurd h
  made_over-more all before [] (n ∷ marks) c m made h = absurd h

  looks_over-more : (all : Histories) (before : Counts) (calls : List Call) (marks : List Mark) (c : Call) (m : Mark) → AreTurns site stops all before calls marks
      → looks_over site.users (calls ++ c ∷ []) (marks ++ m ∷ []) ≡ looks_over site.users calls marks + looks_for (call_asked site.users c) m
  looks_over-more all before [] [] c m h = omega arith
  looks_over-more all before (d ∷ calls) (n ∷ marks) c m h = omega (arith, looks_over-more all (counts n) calls marks c m h.1)
  looks_over-more all before (d ∷ calls) [] c m h = absurd h
  looks_over-more all before [] (n ∷ marks) c m h = absurd h

  -- over longer lists
  are_read-longer : (all more : Histories) (before : Counts) (calls : List Call) (marks : List Mark) (rs : List CallReadings) → AreTurns site stops all before calls marks → Grows all more
      → AreRead ⊥ site all calls marks rs → AreRead ⊥ site more calls marks rs
  are_read-longer all more before [] [] [] h b are = are
  are_read-longer all more before (c ∷ calls) (m ∷ marks) (r ∷ rs) h b are = (
    subst (λ lists. IsRead (OfLast ⊥ calls) site lists (call_asked site.users c) m r) (kept_first site stops all more b (counts m) (within site stops all (counts m) calls marks h.1)) are.0,
    are_read-longer all more (counts m) calls marks rs h.1 b are.1,
  )
  are_read-longer all more before [] (m ∷ marks) rs h b are = absurd h
  are_read-longer all more before (c ∷ calls) [] rs h b are = absurd h
  are_read-longer all more before [] [] (r ∷ rs) h b are = absurd are
  are_read-longer all more before (c ∷ calls) (m ∷ marks) [] h b are = absurd are

  are_read-more : (Reason : Type 0) (all : Histories) (calls : List Call) (marks : List Mark) (rs : List CallReadings) (c : Call) (m : Mark) (r : CallReadings) → AreRead ⊥ site all calls marks rs
      → IsRead Reason site (first_of all (counts m)) (call_asked site.users c) m r → AreRead Reason site all (calls ++ c ∷ []) (marks ++ m ∷ []) (rs ++ r ∷ [])
  are_read-more Reason all [] [] [] c m r are is = (is, tt)
  are_read-more Reason all (d ∷ calls) (n ∷ marks) (s ∷ rs) c m r are is = (
    is_read_by (OfLast ⊥ calls) (OfLast Reason (calls ++ c ∷ [])) (not_last Reason calls c) site (first_of all (counts n)) (call_asked site.users d) n s are.0,
    are_read-more Reason all calls marks rs c m r are.1 is,
  )
  are_read-more Reason all [] (n ∷ marks) rs c m r are is = absurd are
  are_read-more Reason all (d ∷ calls) [] rs c m r are is = absurd are
  are_read-more Reason all [] [] (s ∷ rs) c m r are is = absurd are
  are_read-more Reason all (d ∷ calls) (n ∷ marks) [] c m r are is = absurd are

  readings_in-more : (rs : List CallReadings) (r : CallReadings) → readings_in (rs ++ r ∷ []) ≡ readings_in rs ++ readings_of r
  readings_in-more [] r = append-nil (readings_of r)
  readings_in-more (s ∷ rs) r = ap (λ l. readings_of s ++ l) (readings_in-more rs r) ∙ sym (append_assoc (readings_of s) (readings_in rs) (readings_of r))

  pub tallied_more : (Reason : Type 0) (old new : Histories) (before : Counts) (calls : List Call) (marks : List Mark) (c : Call) (m : Mark) (first mid last : Tally) → AreTurns site stops old before calls marks → Grows old new
      → counts m ≡ counts_of new → Tallies ⊥ site old calls marks first mid → TalliesBy Reason site new (call_asked site.users c) m mid last → Tallies Reason site new (calls ++ c ∷ []) (marks ++ m ∷ []) first last
  tallied_more Reason old new before calls marks c m first mid last turns begins seen h t =
      let exit : new ≡ first_of new (counts m) = sym (ap (first_of new) seen ∙ at_exit site stops new) in
      let asks = call_asked site.users c in
      record {
        made_is = t.made_is ∙ ap (made_by site asks m) h.made_is ∙ sym (made_over-more old before calls marks c m first.made turns);
        looked = subst (λ n. LooksAfter n first.looks last.looks) (sym (looks_over-more old before calls marks c m turns))
            (looks_on first.looks mid.looks last.looks (looks_over site.users calls marks) (looks_for asks m) h.looked t.looked);
        reads = h.reads ++ t.read ∷ [];
        are_read = are_read-more Reason new calls marks h.reads c m t.read (are_read-longer old new before calls marks h.reads turns begins h.are_read)
            (subst (λ lists. IsRead Reason site lists asks m t.read) exit t.is_read);
        readings_are = t.readings_are ∙ ap (λ l. l ++ readings_of t.read) h.readings_are ∙ append_assoc first.readings (readings_in h.reads) (readings_of t.read)
            ∙ ap (λ l. first.readings ++ l) (sym (readings_in-more h.reads t.read));
      }

-- on the lists that are seen in the end, where no more was done
pub tallied_same : (site : Site) (old new : Histories) (calls : List Call) (marks : List Mark) (first mid last : Tally) → new ≡ old → last ≡ mid → Tallies ⊥ site old calls marks first mid → Tallies ⊥ site new calls marks first last
tallied_same site old new calls marks first mid last lists is h =
    subst (λ (p : Histories × Tally). Tallies ⊥ site p.0 calls marks first p.1) (λ i. (sym lists i, sym is i)) h

-- ---- one call

module _ (Reason : Type 0) (site : Site) (lists : Histories) (asks : CallAsked) (m : Mark) where
  -- the clock was read for it
  pub tallied_from : (first : ℕ) (old read new : Tally) → read.made ≡ old.made → read.looks ≡ old.looks → read.readings ≡ old.readings ++ first ∷ [] → TalliesOn Reason site lists asks m first read new → TalliesBy Reason site lists asks m old new
  tallied_from first old read new made looks readings h = record {
    made_is = h.made_is ∙ ap (made_by site asks m) made;
    looked = subst (λ l. LooksAfter (looks_for asks m) l new.looks) looks h.looked;
    read = record { first = first; more = h.read.more };
    is_read = record { last_is = h.read.last_is; waits = h.waits };
    readings_are = h.read.are ∙ ap (λ l. l ++ h.read.more) readings ∙ append_assoc old.readings (first ∷ []) h.read.more;
  }

  -- the engine wasn't asked
  tallied_idle : (first : ℕ) (t : Tally) → made_by site asks m t.made ≡ t.made → looks_for asks m ≡ 0 → m.now ≡ first → WaitsFor site lists m asks first → TalliesOn Reason site lists asks m first t t
  tallied_idle first t made looks now waits = record {
    made_is = sym made;
    looked = subst (λ n. LooksAfter n t.looks t.looks) (sym looks) (looks_same t.looks);
    read = record { more = []; are = sym (append-nil t.readings); last_is = sym now };
    waits = inl waits;
  }

module _ (Reason : Type 0) (site : Site) (lists : Histories) where
  pub options_tallied : (now : ℕ) (t : Tally) (m : Mark) → m ≡ blank false now lists → TalliesOn Reason site lists call.Options m now t t
  options_tallied now t m is = tallied_idle Reason site lists call.Options m now t refl refl (ap (λ (x : Mark). x.now) is) (ap (λ (x : Mark). x.now) is)

  pub versions_tallied : (now : ℕ) (t : Tally) (m : Mark) → m ≡ blank false now lists → TalliesOn Reason site lists call.Versions m now t t
  versions_tallied now t m is = tallied_idle Reason site lists call.Versions m now t refl refl (ap (λ (x : Mark). x.now) is) (ap (λ (x : Mark). x.now) is)

  wanting_tallied-blank : (asks : CallAsked) (now : ℕ) (t : Tally) → TalliesOn Reason site lists asks (blank true now lists) now t t
  wanting_tallied-blank call.Options now t = tallied_idle Reason site lists call.Options (blank true now lists) now t refl refl refl refl
  wanting_tallied-blank call.Versions now t = tallied_idle Reason site lists call.Versions (blank true now lists) now t refl refl refl refl
  wanting_tallied-blank (call.Refused r) now t = tallied_idle Reason site lists (call.Refused r) (blank true now lists) now t refl refl refl refl
  wanting_tallied-blank (call.Request r) now t =
      tallied_idle Reason site lists (call.Request r) (blank true now lists) now t (no_made (asked site now r.who r.ask) now lists (blank true now lists) t.made refl) refl refl (waits_none (wait_of r.ask) now (said.NoMemory refused_memory) refl)

  -- memory was wanting for what is asked, or for its refusal
  pub wanting_tallied : (asks : CallAsked) (now : ℕ) (t : Tally) (m : Mark) → m ≡ blank true now lists → TalliesOn Reason site lists asks m now t t
  wanting_tallied asks now t m is = subst (λ n. TalliesOn Reason site lists asks n now t t) (sym is) (wanting_tallied-blank asks now t)

  pub refused_tallied : (r : Refused) (now : ℕ) (t : Tally) (m : Mark) → m ≡ blank false now lists → TalliesOn Reason site lists (call.Refused r) m now t t
  refused_tallied r now t m is = tallied_idle Reason site lists (call.Refused r) m now t refl refl (ap (λ (x : Mark). x.now) is) (ap (λ (x : Mark). x.now) is)

-- ---- what the engine answers

-- a look at each stream is one more
looked_once : (memory whoami : Bool) (old new : EnginePass) → LooksBy whoami old new → LooksAfter (cond (memory || whoami) 0 1) (looks_of old) (looks_of new)
looked_once true true old new h = record { events = omega (arith, h.events); receipts = omega (arith, h.receipts); accounts = omega (arith, h.accounts) }
looked_once true false old new h = record { events = omega (arith, h.events); receipts = omega (arith, h.receipts); accounts = omega (arith, h.accounts) }
looked_once false true old new h = record { events = omega (arith, h.events); receipts = omega (arith, h.receipts); accounts = omega (arith, h.accounts) }
looked_once false false old new h = record { events = omega (arith, h.events); receipts = omega (arith, h.receipts); accounts = omega (arith, h.accounts) }

-- what was told is what is answered, where who asks hasn't gone away
waited_or : {A W R : Type 0} (gone : Bool) → (gone ≡ false → A) → (gone ≡ true → R) → (A → W) → W ⊎ (R × (gone ≡ true))
waited_or true waited rests f = inr (rests refl, refl)
waited_or false waited rests f = inl (f (waited refl))

module _ (site : Site) (stops : Stops) (who : Who) (a : Ask) (first : ℕ) (old new : EnginePass) (before after : List ℕ) (r : Answered) (h : IsAnswered site stops r.mark.now who a (stores_of old) (stores_of new) r)
    (made : made_of new ≡ made_for (asked site r.mark.now who a) r.mark (made_of old)) (looks : LooksFor a old new) (gone : Bool) (waited : gone ≡ false → HasWaited a first r.mark.now r.said)
    (rests : gone ≡ true → may_rest a ≡ true) (read : ReadsOn before after first r.mark.now) where
  abbrev asks : CallAsked
  asks = call.Request (record { who = who; ask = a })

  pub answered_tallied : (m : Mark) (status : ℕ) (text : List ℕ) → Renders site.users.server who.device r m status text → TalliesOn (gone ≡ true) site (stores_of new) asks m first (tally old before) (tally new after)
  answered_tallied m status text (inl is) = subst (λ n. TalliesOn (gone ≡ true) site (stores_of new) asks n first (tally old before) (tally new after)) (sym is.0) (record {
    made_is = made;
    looked = looked_once r.mark.memory (is_whoami a) old new looks;
    read = read;
    waits = waited_or gone waited rests (subst (λ s. HasWaited a first r.mark.now s) h.said_is);
  })
  answered_tallied m status text (inr is) = subst (λ n. TalliesOn (gone ≡ true) site (stores_of new) asks n first (tally old before) (tally new after)) (sym is.0) (record {
    made_is = made ∙ sym (made_wanting (asked site r.mark.now who a) r.mark (made_of old));
    looked = looked_once true (is_whoami a) old new looks;
    read = read;
    waits = waited_or gone waited rests (waits_told (wait_of a) first r.mark.now r.said (said.NoMemory refused_memory) refl);
  })

-- ---- a turn

pub tallied_step : (site : Site) (lists : Histories) (c : Call) (m : Mark) (bytes : List ℕ) (from to : Option (List ℕ)) (old new : Tally) (s : Step) → Writes c m bytes from to s → TalliesBy ⊥ site lists (call_asked site.users c) m old new
    → StepTallies site lists c from to old new s
tallied_step site lists c m bytes from to old new (step.Next n) w t = subst (λ k. TalliesBy ⊥ site lists (call_asked site.users c) k old new) (sym w.0) t
tallied_step site lists c m bytes from to old new (step.Last n end.Asked) w t = subst (λ k. TalliesBy ⊥ site lists (call_asked site.users c) k old new) (sym w.0) t
tallied_step site lists c m bytes from to old new (step.Last n end.WriteFault) w t =
    tallied_by ⊥ (Keeps from to) (λ none. absurd none) site lists (call_asked site.users c) n old new (subst (λ k. TalliesBy ⊥ site lists (call_asked site.users c) k old new) (sym w.0) t)
tallied_step site lists c m bytes from to old new (step.Last n end.Closed) w t = absurd w
tallied_step site lists c m bytes from to old new (step.Last n end.Full) w t = absurd w
tallied_step site lists c m bytes from to old new (step.Last n end.Cut) w t = absurd w
tallied_step site lists c m bytes from to old new (step.Last n (end.Refused _)) w t = absurd w
tallied_step site lists c m bytes from to old new (step.Last n end.ReadFault) w t = absurd w
tallied_step site lists c m bytes from to old new (step.Last n (end.Memory wanting)) w t = absurd w
tallied_step site lists c m bytes from to old new (step.Ended e) w t = absurd w

-- a turn in which nothing is written, as who asks has gone away
pub tallied_unwritten : (Reason : Type 0) (site : Site) (lists : Histories) (c : Call) (m : Mark) (from to : Option (List ℕ)) (old new : Tally) → to ≡ from → TalliesBy Reason site lists (call_asked site.users c) m old new
    → StepTallies site lists c from to old new (step.Last m end.WriteFault)
tallied_unwritten Reason site lists c m from to old new same t =
    tallied_by Reason (Keeps from to) (λ reason. subst (λ w. Keeps from w) (sym same) (Keeps-refl from)) site lists (call_asked site.users c) m old new t
