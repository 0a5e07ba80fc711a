-- One connection for the users of a file, and a server for them.
use Rattle.std.proofs.Common.{◌≡◌, ◌⊎◌, ℕ, ◌≤◌, List, [], Option, Some, None, inl, inr, refl, sym, subst, ◌∙◌, arith}
use Rattle.std.proofs.Math.Logic.{∥∥₁_map}
use Rattle.mx_http.specs.declared.call.Call.{Call}
use Rattle.mx_outside.specs.Causes.{Rose}
use Rattle.mx_ids.specs.declared.users.Users.{Users}
use Rattle.mx_fold.specs.Lists.{AreLawful, Histories}
use Rattle.mx_serve.specs.OfEngine.Answers.{Stops, counts_of, nothing}
use Rattle.mx_serve.specs.Aims.Asked.{Site}
use Rattle.mx_serve.specs.OfEngine.Shown.{Looks, none_made, stores_of}
use Rattle.mx_serve.specs.OfEngine.Written.{Made}
use Rattle.mx_serve.specs.OfEngine.EnginePass.{EnginePass}
use Rattle.mx_serve.specs.Tallies.{tally}
use Rattle.mx_serve.specs.Rooms.{AreValid}
use Rattle.mx_pool.specs.Connections.{Change, Clocked, Ends, Service, change}
use Rattle.mx_pool.specs.Runs.{Arrivals, HasUsers, IsCause, IsIdle, ServesBy, ServesFile, ServesFor, ServesOn, ServesOne, ServesRun, ServesWith, arrivals, run_stops, server_status, service_for, site_for, status_of}
use Rattle.mx_pool.specs.Serving.{HasServed, IsServerStatus}
use Rattle.mx_pool.specs.declared.serving.Served.{Served}
use Rattle.mx_pool.specs.declared.serving.Served.TheVariants as served
use Rattle.mx_serve.specs.Sessions.{InputFaults, IsServed, OutputFaults, moment}
use Rattle.mx_serve.specs.declared.ended.Ended.{Ended}
use Rattle.mx_pool.specs.declared.status.Status.{Status}
use Rattle.mx_pool.specs.declared.status.Status.TheVariants as status
use Rattle.mx_words.specs.Words.{Help, Loop, Meaning, Pipe, Refused, Said, Says, Serve, Version, Way, Wrong}
use Rattle.mx_serve.proofs.Chaining.{connections_agree}
use Rattle.mx_serve.proofs.Alone.{stores_are_own}
use Rattle.mx_serve.proofs.OfEngine.Alone.{has_all}

module _ (users : Users) (workers limit : ℕ) (left written : Change (Option (List ℕ))) (reads writes : Change ℕ) (clock : Change Clocked) (ended : Ended) (p : EnginePass) where
  -- a connection of so many requests from these lists
  abbrev From : Looks → Site → Stops → ℕ → Histories → Made → Type 0
  From looks site stops n start made = (calls : List Call) × IsServed site stops n
      (moment [] left.before written.before start clock.before.last (record { made = made; looks = looks; readings = clock.before.readings }))
      (moment [] left.after written.after (stores_of p) clock.after.last (tally p clock.after.readings)) calls ended.marks ended.end

  -- a connection on a new engine for the users
  pub serves : (site : Site) (stops : Stops) (n : ℕ) (start : Histories) (made : Made) (looks : Looks) (s : Status) → site ≡ site_for users workers → stops ≡ run_stops → n ≡ limit → start ≡ nothing → made ≡ none_made
      → From looks site stops n start made
      → AreValid (stores_of p) ended.marks → AreLawful (stores_of p) → InputFaults ended.end reads.before reads.after → OutputFaults ended.end writes.before writes.after → s ≡ status_of ended.end
      → ServesOne users workers limit left written reads writes clock s ended p
  serves site stops n start made looks s site_is stops_is limit_is empty none from valid lawful input output is =
      let h : From looks (site_for users workers) run_stops limit nothing none_made =
      subst (λ m. From looks (site_for users workers) run_stops limit nothing m) none
      (subst (λ l. From looks (site_for users workers) run_stops limit l made) empty (subst (λ k. From looks (site_for users workers) run_stops k start made) limit_is
      (subst (λ t. From looks (site_for users workers) t n start made) stops_is (subst (λ u. From looks u stops n start made) site_is from)))) in
      record {
        calls = h.0;
        looks = looks;
        served = h.1;
        read_faults = input;
        write_faults = output;
        status_is = is;
        valid = valid;
        headline = connections_agree (site_for users workers) run_stops (stores_of p) (counts_of nothing) h.0 ended.marks h.1.turns lawful;
        alone = stores_are_own (site_for users workers) run_stops limit
            (moment [] left.before written.before nothing clock.before.last (record { made = none_made; looks = looks; readings = clock.before.readings }))
            (moment [] left.after written.after (stores_of p) clock.after.last (tally p clock.after.readings)) h.0 ended.marks ended.end h.1
            (record { events = λ e. refl; receipts = λ e. refl; accounts = λ e. refl }) (has_all p);
      }

-- ---- a server

-- what it is, by what its engine is made for
pub service_is : (site : Site) (stops : Stops) (n : ℕ) (users : Users) (workers limit : ℕ) → site ≡ site_for users workers → stops ≡ run_stops → n ≡ limit
    → ◌≡◌ {A = Service} (record { site = site; stops = stops; limit = n }) (service_for users workers limit)
service_is site stops n users workers limit a b c = λ i. record { site = a i; stops = b i; limit = c i }

-- a server whose status is `Listener` had a fault of the listener or of the spawner
pub server_rose : (A B : Type 0) (how : Served) (s : Status) → s ≡ server_status how → (how ≡ served.ListenFailed → A) → (how ≡ served.StartRefused → B) → s ≡ status.Listener → A ⊎ B
server_rose A B how s is a b listener = go how a b (sym is ∙ listener)
  where
    go : (how : Served) → (how ≡ served.ListenFailed → A) → (how ≡ served.StartRefused → B) → server_status how ≡ status.Listener → A ⊎ B
    go served.Closed a b e = absurd cc
    go served.ListenFailed a b e = inl (a refl)
    go served.StartRefused a b e = inr (b refl)
    go (served.Memory _) a b e = absurd cc

-- a count that rose after it had grown rose from before
pub rose_from : (old set bound new : ℕ) → set ≡ old → set ≤ bound → Rose bound new → Rose old new
rose_from old set bound new is h rose = omega (arith, is, h, rose)

-- the status of a server is one of a server's
pub server_is : (how : Served) (s : Status) → s ≡ server_status how → IsServerStatus s
server_is how s is = subst IsServerStatus (sym is) (go how)
  where
    go : (how : Served) → IsServerStatus (server_status how)
    go served.Closed = tt
    go served.ListenFailed = tt
    go served.StartRefused = tt
    go (served.Memory _) = tt

-- a server that is done was closed
pub server_closed : (A : Type 0) (how : Served) (s : Status) → s ≡ server_status how → (how ≡ served.Closed → A) → s ≡ status.Done → A
server_closed A how s is a done = go how a (sym is ∙ done)
  where
    go : (how : Served) → (how ≡ served.Closed → A) → server_status how ≡ status.Done → A
    go served.Closed a e = a refl
    go served.ListenFailed a e = absurd cc
    go served.StartRefused a e = absurd cc
    go (served.Memory _) a e = absurd cc

-- a status with which no server is done
pub cause_done : (told : Option (List ℕ)) (faults : Change ℕ) (s : Status) → IsCause told faults s → s ≡ status.Done → ⊥
cause_done told faults s cause is = subst (IsCause told faults) is cause

module _ {L P : Type 0} (left : L → Option (List P)) (ends : P → Ends) where
  pub served_for : (service : Service) (users : Users) (workers limit : ℕ) → service ≡ service_for users workers limit → (came : Arrivals P) (how : Served) (s : Status) (seen : Histories) → s ≡ server_status how
      → ∥ HasServed service left ends came.pairs came.starts how seen ∥₁ → ServesFor users workers limit left ends came s
  served_for service users workers limit is came how s seen status h =
      inr (∥∥₁_map h (λ x. (how, status, seen, subst (λ (v : Service). HasServed v left ends came.pairs came.starts how seen) is x)))

  pub none_for : (users : Users) (workers limit : ℕ) (pairs after : Option (List P)) (starts later : ℕ) (s : Status) → after ≡ pairs → later ≡ starts → (s ≡ status.Done → ⊥)
      → ServesFor users workers limit left ends (arrivals (change pairs after) (change starts later)) s
  none_for users workers limit pairs after starts later s a b c = inl (record { pairs_are = a; starts_are = b }, c)

  -- once an address is bound, which takes no pair
  pub bound_for : (users : Users) (workers limit : ℕ) (pairs bound after : Option (List P)) (starts : Change ℕ) (s : Status) → bound ≡ pairs
      → ServesFor users workers limit left ends (arrivals (change bound after) starts) s → ServesFor users workers limit left ends (arrivals (change pairs after) starts) s
  bound_for users workers limit pairs bound after starts s is h = subst (λ (l : Option (List P)). ServesFor users workers limit left ends (arrivals (change l after) starts) s) is h

  -- the users are those of the file
  pub file_for : (users : Users) (said : Said) (file : List ℕ → Option (List ℕ)) (came : Arrivals P) (s : Status) → HasUsers (file said.users) users
      → ServesFor users said.workers said.requests left ends came s → ServesFile said file left ends came s
  file_for users said file came s has (inl none) = inl none
  file_for users said file came s has (inr h) = inr (users, has, h)

  -- at the address of the words
  pub by_address : (way : Way) (address : List ℕ) (said : Said) (file : List ℕ → Option (List ℕ)) (came : Arrivals P) (s t : Status) → Serve address ≡ way → t ≡ s
      → ServesFile said file left ends came s → ServesBy way said file left ends came t
  by_address way address said file came s t at is h =
      subst (λ w. ServesBy w said file left ends came t) at (subst (λ u. ServesFile said file left ends came u) (sym is) h)

  -- none of the listener's pairs is taken by loops
  pub by_loops : (way : Way) (address : List ℕ) (said : Said) (file : List ℕ → Option (List ℕ)) (came : Arrivals P) (s : Status) → Loop address ≡ way → came.pairs.after ≡ came.pairs.before → ServesBy way said file left ends came s
  by_loops way address said file came s at same = subst (λ w. ServesBy w said file left ends came s) at same

  pub on_loops : (way : Way) (address : List ℕ) (told : Option (List ℕ)) (said : Said) (file : List ℕ → Option (List ℕ)) (came : Arrivals P) (s : Status) → Loop address ≡ way → came.pairs.after ≡ came.pairs.before
      → ServesOn way told said file left ends came s
  on_loops way address told said file came s at same = subst (λ w. ServesOn w told said file left ends came s) at same

  by_none : (way : Way) (said : Said) (file : List ℕ → Option (List ℕ)) (came : Arrivals P) (s : Status) → IsIdle came → (s ≡ status.Done → ⊥) → ServesBy way said file left ends came s
  by_none Pipe said file came s idle other = idle
  by_none (Serve address) said file came s idle other = inl (idle, other)
  by_none (Loop address) said file came s idle other = idle.pairs_are

  pub on_none : (way : Way) (told : Option (List ℕ)) (said : Said) (file : List ℕ → Option (List ℕ)) (came : Arrivals P) (s : Status) → IsIdle came → (s ≡ status.Done → ⊥) → ServesOn way told said file left ends came s
  on_none Pipe told said file came s idle other = idle
  on_none (Serve address) told said file came s idle other = inl (idle, other)
  on_none (Loop address) told said file came s idle other = idle.pairs_are

  -- by the journal of the words
  pub served_plain : (journal : Option (List ℕ)) (journals : List ℕ → Option (List ℕ)) (said : Said) (file : List ℕ → Option (List ℕ)) (came : Arrivals P) (s : Status) → journal ≡ None → ServesBy said.way said file left ends came s → ServesWith journal journals said file left ends came s
  served_plain journal journals said file came s is r = subst (λ j. ServesWith j journals said file left ends came s) (sym is) r

  pub served_kept : (journal : Option (List ℕ)) (name : List ℕ) (journals : List ℕ → Option (List ℕ)) (said : Said) (file : List ℕ → Option (List ℕ)) (came : Arrivals P) (s : Status) → journal ≡ Some name
      → ServesOn said.way (journals name) said file left ends came s → ServesWith journal journals said file left ends came s
  served_kept journal name journals said file came s is r = subst (λ j. ServesWith j journals said file left ends came s) (sym is) r

  -- nothing is served where no run is asked, or there is no memory to read the words
  with_none : (journal : Option (List ℕ)) (journals : List ℕ → Option (List ℕ)) (said : Said) (file : List ℕ → Option (List ℕ)) (came : Arrivals P) (s : Status) → IsIdle came → (s ≡ status.Done → ⊥) → ServesWith journal journals said file left ends came s
  with_none None journals said file came s idle other = by_none said.way said file came s idle other
  with_none (Some name) journals said file came s idle other = on_none said.way (journals name) said file came s idle other

  pub run_none : (m : Meaning) (journals file : List ℕ → Option (List ℕ)) (came : Arrivals P) (s : Status) → IsIdle came → ((s ≡ status.Done → ⊥) ⊎ ((m ≡ Help) ⊎ (m ≡ Version))) → ServesRun m journals file left ends came s
  run_none (Says said) journals file came s idle (inl other) = with_none said.journal journals said file came s idle other
  run_none (Says said) journals file came s idle (inr (inl e)) = absurd cc
  run_none (Says said) journals file came s idle (inr (inr e)) = absurd cc
  run_none Help journals file came s idle other = idle
  run_none Version journals file came s idle other = idle
  run_none Refused journals file came s idle other = idle
  run_none (Wrong why) journals file came s idle other = idle
