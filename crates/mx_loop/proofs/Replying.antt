-- A session's answers.
use Rattle.std.proofs.Common.{◌≡◌, ℕ, ◌+◌, ◌==◌, ◌||◌, ⊎_elim, inl, inr, List, Bool, true, false, cond, length, bytes_eq, codes, refl, sym, ap, ◌∙◌, subst}
use Rattle.std.proofs.lemmas.Bool.Decides.{eqb_tells}
use Rattle.mx_http.specs.Answers.{response_bytes}
use Rattle.mx_http.specs.declared.call.Call.{Call}
use Rattle.mx_render.specs.Rendered.{no_memory_text}
use Rattle.mx_fold.specs.Lists.{Grows, Histories}
use Rattle.mx_poll.specs.Acts.Acts.{asked as act_asked}
use Rattle.mx_poll.specs.Aims.Asked.{Site}
use Rattle.mx_poll.specs.OfEngine.Answers.{Stops, answer_to, counts, counts_of}
use Rattle.mx_poll.specs.OfEngine.Counts.{Counts}
use Rattle.mx_poll.specs.OfEngine.Exchanges.{AtMost, first_of}
use Rattle.mx_poll.specs.OfEngine.Mark.{Mark}
use Rattle.mx_poll.specs.Waits.{wait_of}
use Rattle.mx_poll.proofs.Waited.{waits_told}
use Rattle.mx_serve.specs.Answers.{IsIdle, KeepsCall}
use Rattle.mx_serve.specs.Asked.{call_asked}
use Rattle.mx_serve.specs.Exchanges.{closes_after}
use Rattle.mx_serve.specs.Sessions.{Moment}
use Rattle.mx_serve.specs.Steps.{Responds}
use Rattle.mx_serve.specs.Tallies.{WaitsFor}
use Rattle.mx_serve.specs.declared.call_asked.CallAsked.{CallAsked}
use Rattle.mx_serve.specs.declared.call_asked.CallAsked.TheVariants as call
use Rattle.mx_serve.proofs.Responding.{wanting}
use Rattle.mx_loop.specs.Seen.{RespondsSeen}
use Rattle.mx_loop.specs.Stands.{Called, IsResting, Prints, Puts, Sight, Stands, next_of}
use Rattle.mx_loop.specs.declared.line.Next.{Next}
use Rattle.mx_loop.specs.declared.line.Next.TheVariants as next
use Rattle.mx_loop.specs.declared.line.Rest.{Rest}
use Rattle.mx_loop.specs.declared.line.State.TheVariants as state
use Rattle.mx_poll.specs.declared.states.SyncPoll.{SyncPoll}
use Rattle.mx_loop.proofs.Older.{first_later}
use Rattle.mx_loop.proofs.Opening.{rest_kept}
use Rattle.mx_loop.proofs.Standing.{Answered, after, asked, filled, goes_on}

module _ (site : Site) (stops : Stops) where
  -- ---- an answer whose bytes find no room

  wanting_idle : (m : Mark) (before : Counts) → IsIdle m before → IsIdle (record m { memory = true }) before
  wanting_idle m before h = record {
    read = record { lane = h.read.lane; own_is = h.read.own_is; unstored_is = h.read.unstored_is; told = h.read.told };
    marker_is = h.marker_is;
    marker_told_is = h.marker_told_is;
    same = h.same;
  }

  wanting_call : (asks : CallAsked) (m : Mark) (before : Counts) (old new : Histories) → KeepsCall site stops asks m before old new → KeepsCall site stops asks (record m { memory = true }) before old new
  wanting_call call.Options m before old new h = wanting_idle m before h
  wanting_call call.Versions m before old new h = wanting_idle m before h
  wanting_call (call.Refused r) m before old new h = wanting_idle m before h
  wanting_call (call.Request r) m before old new h = wanting site stops (act_asked site m.now r.who r.ask) m old new h

  wanting_responds : (asks : CallAsked) (now : ℕ) (old new : Histories) (m : Mark) (status : ℕ) (text : List ℕ) → Responds site stops asks now old new m status text
      → Responds site stops asks now old new (record m { memory = true }) 503 no_memory_text
  wanting_responds asks now old new m status text r = record {
    marks = record {
      now_is = r.marks.now_is;
      seen = r.marks.seen;
      begins = r.marks.begins;
      keeps = wanting_call asks m (counts_of old) old new r.marks.keeps;
    };
    is = refl;
  }

  wanting_waits : (asks : CallAsked) (lists : Histories) (m : Mark) (first : ℕ) → WaitsFor site lists m asks first → WaitsFor site lists (record m { memory = true }) asks first
  wanting_waits call.Options lists m first h = h
  wanting_waits call.Versions lists m first h = h
  wanting_waits (call.Refused r) lists m first h = h
  wanting_waits (call.Request r) lists m first h =
      waits_told (wait_of r.ask) first m.now (answer_to site lists m m.now r.who r.ask) (answer_to site lists (record m { memory = true }) m.now r.who r.ask) refl h

  -- the answer that is printed, by its bytes
  record Says (asks : CallAsked) (first now : ℕ) (seen : Counts) (old new : Histories) (m : Mark) (head close : Bool) (bytes : List ℕ) : Type 0 where
    status : ℕ
    text : List ℕ
    seen_is : RespondsSeen site stops asks first now seen old new m status text
    bytes_are : bytes ≡ response_bytes status text head close

  says : (asks : CallAsked) (first now : ℕ) (seen : Counts) (old new : Histories) (told m : Mark) (status : ℕ) (text spare : List ℕ) (head close : Bool) (bytes : List ℕ)
      → RespondsSeen site stops asks first now seen old new told status text → spare ≡ response_bytes 503 no_memory_text head close → Prints told status text head close spare m bytes
      → Says asks first now seen old new m head close bytes
  says asks first now seen old new told m status text spare head close bytes h is (inl p) =
      subst (λ k. Says asks first now seen old new k head close bytes) (sym p.0)
      (record { status = status; text = text; seen_is = h; bytes_are = p.1 })
  says asks first now seen old new told m status text spare head close bytes h is (inr p) =
      subst (λ k. Says asks first now seen old new k head close bytes) (sym p.0)
      (record {
        status = 503;
        text = no_memory_text;
        seen_is = record {
          grows = h.grows;
          within = h.within;
          responds = wanting_responds asks now (first_of old seen) (first_of new (counts told)) told status text h.responds;
          waits = wanting_waits asks (first_of new (counts told)) told first h.waits;
        };
        bytes_are = p.1 ∙ is;
      })

  module _ (limit : ℕ) where
    -- ---- the answer is taken up

    settled : (start : Moment) (old new : Histories) (s : Sight) (c : Call) (m : Mark) (answer : List ℕ) (a : Answered site stops limit start old new s c m answer) (close : Bool) → c.close ≡ close
        → Stands site stops limit start new (after site stops limit start old new s c m answer a) (state.Writes (next_of limit close (length s.marks + 1)))
    settled start old new s c m answer a true ends = asked site stops limit start old new s c m answer a ends
    settled start old new s c m answer a false goes =
        let t = after site stops limit start old new s c m answer a in
        ⊎_elim
        (λ (e : ((length s.marks + 1 == limit) ≡ true) × (length s.marks + 1 ≡ limit)).
        subst (λ b. Stands site stops limit start new t (state.Writes (cond b next.Fills next.Reads))) (sym e.0) (filled site stops limit start old new s c m answer a goes e.1))
        (λ (e : ((length s.marks + 1 == limit) ≡ false) × (length s.marks + 1 ≡ limit → ⊥)).
        subst (λ b. Stands site stops limit start new t (state.Writes (cond b next.Fills next.Reads))) (sym e.0) (goes_on site stops limit start old new s c m answer a goes e.1))
        (eqb_tells (length s.marks + 1) limit)

    pub put_up : (start : Moment) (old new : Histories) (s t : Sight) (seen : Counts) (c : Call) (first now : ℕ) (was : Counts) (told : Mark) (status : ℕ) (text spare : List ℕ) (head close : Bool) (n : Next)
        → Called site stops limit start (first_of old was) s c → RespondsSeen site stops (call_asked site.users c) first now was old new told status text
        → head ≡ bytes_eq c.method (codes "HEAD") → close ≡ c.close → spare ≡ response_bytes 503 no_memory_text head (closes_after limit (length s.marks) c)
        → Puts limit s t seen told status text head close spare n
        → Stands site stops limit start (first_of new seen) t (state.Writes n) × AtMost seen (counts_of new)
    put_up start old new s t seen c first now was told status text spare head close n h is head_is close_is spare_is p =
        let ends : (close || (length s.marks + 1) == limit) ≡ closes_after limit (length s.marks) c = ap (λ b. b || (length s.marks + 1) == limit) close_is in
        let x = says (call_asked site.users c) first now was old new told p.mark status text spare head (close || (length s.marks + 1) == limit) t.out is
        (spare_is ∙ ap (response_bytes 503 no_memory_text head) (sym ends)) p.prints in
        let a : Answered site stops limit start (first_of old was) (first_of new (counts p.mark)) s c p.mark t.out = record {
          called = h;
          now = now;
          first = first;
          status = x.status;
          text = x.text;
          bytes_are = x.bytes_are ∙ (λ i. response_bytes x.status x.text (head_is i) (ends i));
          responds = x.seen_is.responds;
          waits = x.seen_is.waits;
        } in
        let done = settled start (first_of old was) (first_of new (counts p.mark)) s c p.mark t.out a close (sym close_is) in (
          subst (λ (q : Sight × (Next × Counts)). Stands site stops limit start (first_of new q.1.1) q.0 (state.Writes q.1.0))
              (λ i. (record { left = sym p.same.0 i; written = sym p.same.1 i; held = sym p.same.2 i; out = t.out; marks = sym p.marks i }, (sym p.next_is i, sym p.seen_is i)))
              done,
          subst (λ (k : Counts). AtMost k (counts_of new)) (sym p.seen_is) x.seen_is.within,
        )

    -- a sync that rests stands where others have stored more
    pub rests_on : (start : Moment) (old new : Histories) (s : Sight) (was : Counts) (r : Rest) → IsResting site stops limit start (first_of old was) s r → AtMost was (counts_of old) → Grows old new
        → Stands site stops limit start (first_of new was) s (state.Rests r)
    rests_on start old new s was r h within grows = subst (λ l. IsResting site stops limit start l s r) (first_later site stops old new was grows within) h

    -- what others store later changes nothing of a session
    pub stays : (old new : Histories) (was : Counts) (P : Histories → Type 0) → AtMost was (counts_of old) → Grows old new → P (first_of old was) → P (first_of new was)
    stays old new was P within grows h = subst P (first_later site stops old new was grows within) h

    -- a sync that rests, with another state that asks the same
    pub rests_with : (start : Moment) (old new : Histories) (s : Sight) (was : Counts) (r : Rest) (q : SyncPoll) → IsResting site stops limit start (first_of old was) s r → q ≡ record r.poll { empty_at = q.empty_at } → AtMost was (counts_of old) → Grows old new
        → Stands site stops limit start (first_of new was) s (state.Rests (record r { poll = q }))
    rests_with start old new s was r q h is within grows =
        rests_on start old new s was (record r { poll = q })
        (record { taken = h.taken; called = h.called; asks = rest_kept (call_asked site.users h.taken) r.asked r.poll q r.device is h.asks; head_only = h.head_only; closes = h.closes; spare = h.spare }) within grows

-- what was taken up counts no more
pub puts_within : (limit : ℕ) (s t : Sight) (seen : Counts) (told : Mark) (status : ℕ) (text : List ℕ) (head close : Bool) (spare : List ℕ) (n : Next) (all : Histories)
    → Puts limit s t seen told status text head close spare n → AtMost (counts told) (counts_of all) → AtMost seen (counts_of all)
puts_within limit s t seen told status text head close spare n all p within =
    subst (λ k. AtMost k (counts_of all)) (sym p.seen_is)
    (⊎_elim (λ (q : (p.mark ≡ told) × (t.out ≡ response_bytes status text head (close || (length s.marks + 1) == limit))). subst (λ k. AtMost k (counts_of all)) (sym (ap counts q.0)) within)
    (λ (q : (p.mark ≡ record told { memory = true }) × (t.out ≡ spare)). subst (λ k. AtMost k (counts_of all)) (sym (ap counts q.0)) within) p.prints)
