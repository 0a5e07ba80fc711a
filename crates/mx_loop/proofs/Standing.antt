-- A session's steps.
use Rattle.std.proofs.Common.{◌≡◌, ℕ, ◌+◌, ◌<◌, ◌≤◌, ◌⊎◌, ⊎_elim, inl, inr, List, [], ◌∷◌, ◌++◌, Bool, true, false, Option, Some, None, length, take, drop, bytes_eq, codes, refl, sym, ap, ◌∙◌, subst, arith, append_assoc, append-nil, length-append}
use Rattle.std.specs.Io.KnownBytes.{prepend_known, append_known, Consumes, Appends, Keeps, IsAtEnd}
use Rattle.std.proofs.KnownBytes.{Appends-trans, Consumes-kept, Appends-kept, Keeps-refl, append_known-moved}
use Rattle.std.proofs.Math.Nat.{eq-or-lt_of_le}
use Rattle.std.proofs.Math.Seq.{take-append_seam, drop-append_seam}
use Rattle.mx_ids.specs.Memory.{refused_memory}
use Rattle.mx_ids.specs.declared.memory.Memory.{Memory}
use Rattle.mx_http.specs.Answers.{response_bytes}
use Rattle.mx_http.specs.Calls.{HasFault, IsBlank, IsUnfinished}
use Rattle.mx_http.specs.declared.call.Call.{Call}
use Rattle.mx_http.specs.declared.fault.HttpFault.{HttpFault}
use Rattle.mx_fold.specs.Lists.{Histories}
use Rattle.mx_poll.specs.Aims.Asked.{Site}
use Rattle.mx_poll.specs.OfEngine.Answers.{Stops}
use Rattle.mx_poll.specs.OfEngine.Mark.{Mark}
use Rattle.mx_serve.specs.Answers.{Response}
use Rattle.mx_serve.specs.Asked.{call_asked}
use Rattle.mx_serve.specs.Exchanges.{closes_after, exchanges_bytes, fault_bytes, last_reading}
use Rattle.mx_serve.specs.Sessions.{AppendsPast, Leaves, Moment, WritesBy, all_but_last, moment}
use Rattle.mx_serve.specs.Steps.{Exchanges, HasServed, Replies, Responds, Takes, Turns, TurnsTo}
use Rattle.mx_serve.specs.Tallies.{CallReadings, Tally, TalliesBy, WaitsFor, looks_for, made_by, readings_of}
use Rattle.mx_serve.specs.declared.call_asked.CallAsked.{CallAsked}
use Rattle.mx_serve.specs.declared.ended.End.{End}
use Rattle.mx_serve.specs.declared.ended.End.TheVariants as end
use Rattle.mx_serve.specs.declared.ended.Step.TheVariants as step
use Rattle.mx_serve.proofs.Growing.{last_reading-more}
use Rattle.mx_serve.proofs.Served.{asked_calls, before_last, full_calls, has_served-ended, has_served-full, has_served-last, has_served-next, has_served-nothing, has_served-short, has_served-start, next_calls, refused_calls, short_calls}
use Rattle.mx_serve.proofs.Tallying.{tallied_for}
use Rattle.mx_loop.specs.Stands.{Called, EndedBy, IsFirst, Served, Sight, Stands, Then, ahead_of, earlier_bytes}
use Rattle.mx_loop.specs.declared.line.Next.{Next}
use Rattle.mx_loop.specs.declared.line.Next.TheVariants as next
use Rattle.mx_loop.specs.declared.line.State.{State}
use Rattle.mx_loop.specs.declared.line.State.TheVariants as state

-- ---- bytes

-- bytes that came are ahead as they were
pub came : (old new : Option (List ℕ)) (before now piece : List ℕ) → now ≡ before ++ piece → Consumes old new piece → Keeps (prepend_known before old) (prepend_known now new)
came None new before now piece is moved = tt
came (Some x) None before now piece is moved = absurd moved
came (Some x) (Some y) before now piece is moved = ap (λ l. l ++ y) is ∙ append_assoc before piece y ∙ ap (λ l. before ++ l) (sym moved)

pub same_ahead : (old new : Option (List ℕ)) (before now : List ℕ) → now ≡ before → new ≡ old → Keeps (prepend_known before old) (prepend_known now new)
same_ahead old new before now held left = subst (λ l. Keeps (prepend_known before old) (prepend_known l new)) (sym held) (subst (λ l. Keeps (prepend_known before old) (prepend_known before l)) (sym left) (Keeps-refl (prepend_known before old)))

-- what is taken of what is held
gone : (left : Option (List ℕ)) (bytes held : List ℕ) → Consumes (prepend_known (bytes ++ held) left) (prepend_known held left) bytes
gone None bytes held = tt
gone (Some x) bytes held = append_assoc bytes held x

-- an answer behind nothing
added : (written : Option (List ℕ)) (out answer : List ℕ) → out ≡ [] → Appends (append_known written out) (append_known written answer) answer
added None out answer none = tt
added (Some x) out answer none = ap (λ l. l ++ answer) (sym (append-nil x) ∙ ap (λ l. x ++ l) (sym none))

-- nothing is on its way
pub all_out : (written : Option (List ℕ)) (out : List ℕ) → out ≡ [] → append_known written out ≡ written
all_out None out none = refl
all_out (Some x) out none = ap Some (ap (λ l. x ++ l) none ∙ append-nil x)

-- all earlier bytes are in what was sent
all_past : (x w : Option (List ℕ)) (out bytes sent earlier : List ℕ) → length earlier ≤ length sent → Appends x w sent → Appends x (append_known w out) bytes → AppendsPast x w earlier bytes
all_past None w out bytes sent earlier l p q = (length earlier, omega arith, tt)
all_past (Some x) None out bytes sent earlier l p q = absurd p
all_past (Some x) (Some y) out bytes sent earlier l p q =
    let all : bytes ≡ sent ++ out = sym (drop-append_seam x bytes) ∙ ap (drop (length x)) (sym q ∙ ap (λ l. l ++ out) p ∙ append_assoc x sent out) ∙ drop-append_seam x (sent ++ out) in
    (length sent, l, p ∙ ap (λ l. x ++ l) (sym (ap (take (length sent)) all ∙ take-append_seam sent out)))

-- more was sent
sent_more : (earlier sent more : List ℕ) → length earlier ≤ length sent → length earlier ≤ length (sent ++ more)
sent_more earlier sent more l = omega (arith, l, length-append sent more)

-- ---- what is told of an answer, beside its bytes

abbrev pub read_at : ℕ → ℕ → CallReadings
read_at first last = record { first = first; more = last ∷ [] }

abbrev pub told_tally : Site → CallAsked → Mark → ℕ → Tally → Tally
told_tally site asks m first t = record {
  made = made_by site asks m t.made;
  looks = record { events = t.looks.events + looks_for asks m; receipts = t.looks.receipts + looks_for asks m; accounts = t.looks.accounts + looks_for asks m };
  readings = t.readings ++ readings_of (read_at first m.now);
}

pub tallied_told : (site : Site) (lists : Histories) (asks : CallAsked) (m : Mark) (first : ℕ) (t : Tally) → WaitsFor site lists m asks first → TalliesBy ⊥ site lists asks m t (told_tally site asks m first t)
tallied_told site lists asks m first t waits = record {
  made_is = refl;
  looked = record { events = omega arith; receipts = omega arith; accounts = omega arith };
  read = read_at first m.now;
  is_read = record { last_is = refl; waits = inl waits };
  readings_are = refl;
}

-- no more than, and another number
pub less : (k n : ℕ) → k ≤ n → (k ≡ n → ⊥) → k < n
less k n l never = ⊎_elim (λ (e : k ≡ n). absurd (never e)) (λ (x : k < n). x) (eq-or-lt_of_le l)

module _ (site : Site) (stops : Stops) (limit : ℕ) where
  -- ---- what stays where bytes move

  pub kept : (start : Moment) (n : ℕ) (marks : List Mark) (held later : List ℕ) (left then written after : Option (List ℕ)) (lists : Histories) (reading : ℕ) (tally : Tally)
      → Keeps (prepend_known held left) (prepend_known later then) → Keeps written after
      → HasServed site stops limit start n marks (moment held left written lists reading tally) → HasServed site stops limit start n marks (moment later then after lists reading tally)
  kept start n marks held later left then written after lists reading tally k w h = record {
    calls = h.calls;
    front = h.front;
    taken = Consumes-kept start.left (prepend_known held left) (prepend_known later then) h.front h.taken k;
    are_calls = h.are_calls;
    count = h.count;
    none_ends = h.none_ends;
    turns = h.turns;
    last = h.last;
    begins = h.begins;
    reading_is = h.reading_is;
    tallied = h.tallied;
    wrote = Appends-kept start.written written after _ h.wrote w;
  }

  past_kept : (old written after : Option (List ℕ)) (earlier bytes : List ℕ) → Keeps written after → AppendsPast old written earlier bytes → AppendsPast old after earlier bytes
  past_kept old written after earlier bytes k w = (w.0, w.1, Appends-kept old written after _ w.2 k)

  kept_by : (e : End) (old written after : Option (List ℕ)) (rest earlier bytes : List ℕ) → Keeps written after → WritesBy e old written rest earlier bytes → WritesBy e old after rest earlier bytes
  kept_by (end.Refused fault) old written after rest earlier bytes k w = Appends-kept old written after _ w k
  kept_by end.WriteFault old written after rest earlier bytes k (inl w) = inl (past_kept old written after earlier bytes k w)
  kept_by end.WriteFault old written after rest earlier bytes k (inr w) = inr (w.0, w.1, past_kept old written after bytes _ k w.2)
  kept_by end.Closed old written after rest earlier bytes k w = Appends-kept old written after _ w k
  kept_by end.Asked old written after rest earlier bytes k w = Appends-kept old written after _ w k
  kept_by end.Full old written after rest earlier bytes k w = Appends-kept old written after _ w k
  kept_by end.Cut old written after rest earlier bytes k w = Appends-kept old written after _ w k
  kept_by end.ReadFault old written after rest earlier bytes k w = Appends-kept old written after _ w k
  kept_by (end.Memory m) old written after rest earlier bytes k w = Appends-kept old written after _ w k

  leaves_kept : (e : End) (old written after : Option (List ℕ)) (earlier : List ℕ) → Keeps written after → Leaves e old written earlier → Leaves e old after earlier
  leaves_kept end.WriteFault old written after earlier k w = Appends-kept old written after earlier w k
  leaves_kept (end.Refused fault) old written after earlier k w = absurd w
  leaves_kept end.Closed old written after earlier k w = absurd w
  leaves_kept end.Asked old written after earlier k w = absurd w
  leaves_kept end.Full old written after earlier k w = absurd w
  leaves_kept end.Cut old written after earlier k w = absurd w
  leaves_kept end.ReadFault old written after earlier k w = absurd w
  leaves_kept (end.Memory m) old written after earlier k w = absurd w

  pub ended_kept : (start : Moment) (lists : Histories) (marks : List Mark) (left written after : Option (List ℕ)) (e : End) → Keeps written after
      → EndedBy site stops limit start lists marks left written e → EndedBy site stops limit start lists marks left after e
  ended_kept start lists marks left written after e k h =
      let x = h.is in
      let earlier = earlier_bytes site limit lists h.calls marks in record {
        tally = h.tally;
        calls = h.calls;
        is = record {
          front = x.front;
          rest = x.rest;
          taken = x.taken;
          are_calls = x.are_calls;
          turns = x.turns;
          last = x.last;
          begins = x.begins;
          reading_is = x.reading_is;
          tallied = tallied_for (Leaves e start.written written earlier) (Leaves e start.written after earlier) (leaves_kept e start.written written after earlier k) site lists h.calls marks start.tally h.tally x.tallied;
          within = x.within;
          none_earlier = x.none_earlier;
          ends_by = x.ends_by;
          written = kept_by e start.written written after x.rest earlier _ k x.written;
        };
      }

  -- ---- a session that reads

  pub none_out : (written : Option (List ℕ)) (out : List ℕ) → out ≡ [] → Keeps (append_known written out) written
  none_out written out none = subst (λ w. Keeps w written) (sym (all_out written out none)) (Keeps-refl written)

  -- more has come
  pub served_came : (start : Moment) (lists : Histories) (s t : Sight) → t.marks ≡ s.marks → t.out ≡ s.out → t.written ≡ s.written → Keeps (prepend_known s.held s.left) (prepend_known t.held t.left)
      → Served site stops limit start lists s → Served site stops limit start lists t
  served_came start lists s t marks out written k h =
      subst (λ (m : List Mark). Served site stops limit start lists (record t { marks = m })) (sym marks)
      (record {
        few = h.few;
        tally = h.tally;
        served = kept start (length s.marks) s.marks s.held t.held s.left t.left (append_known s.written s.out) (append_known t.written t.out) lists (last_reading start.reading s.marks) h.tally k
            (subst (λ w. Keeps (append_known s.written s.out) w) (λ i. append_known (sym written i) (sym out i)) (Keeps-refl (append_known s.written s.out))) h.served;
      })

  -- the session ends where it reads
  abbrev pub ReadsTo : Sight → End → Type 0
  ReadsTo t end.Closed = IsBlank t.held × IsAtEnd t.left
  ReadsTo t end.Cut = IsUnfinished t.held × (IsBlank t.held → ⊥) × IsAtEnd t.left
  ReadsTo t end.ReadFault = IsBlank t.held ⊎ IsUnfinished t.held
  ReadsTo t (end.Memory m) = Unit {0}
  ReadsTo t other = ⊥

  turns_to : (start : Moment) (lists : Histories) (tally : Tally) (s t : Sight) (e : End) → s.out ≡ [] → Keeps (prepend_known s.held s.left) (prepend_known t.held t.left) → ReadsTo t e
      → TurnsTo (ahead_of start lists tally s) (moment t.held t.left s.written lists (last_reading start.reading s.marks) tally) e
  turns_to start lists tally s t end.Closed none k r = ((record { ahead_is = k; lists = refl; reading = refl; tally = refl }, none_out s.written s.out none), r.0, r.1)
  turns_to start lists tally s t end.Cut none k r = ((record { ahead_is = k; lists = refl; reading = refl; tally = refl }, none_out s.written s.out none), r.0, r.1, r.2)
  turns_to start lists tally s t end.ReadFault none k r = ((record { ahead_is = k; lists = refl; reading = refl; tally = refl }, none_out s.written s.out none), r)
  turns_to start lists tally s t (end.Memory m) none k r = (record { ahead_is = k; lists = refl; reading = refl; tally = refl }, none_out s.written s.out none)
  turns_to start lists tally s t end.Asked none k r = absurd r
  turns_to start lists tally s t end.Full none k r = absurd r
  turns_to start lists tally s t (end.Refused fault) none k r = absurd r
  turns_to start lists tally s t end.WriteFault none k r = absurd r

  pub reads_to : (start : Moment) (lists : Histories) (s t : Sight) (e : End) → t.marks ≡ s.marks → t.written ≡ s.written → s.out ≡ [] → Keeps (prepend_known s.held s.left) (prepend_known t.held t.left)
      → ReadsTo t e → Served site stops limit start lists s → Stands site stops limit start lists t (state.Ended e)
  reads_to start lists s t e marks written none k r h =
      let x = has_served-ended site stops limit start (length s.marks) s.marks (ahead_of start lists h.tally s) (moment t.held t.left s.written lists (last_reading start.reading s.marks) h.tally) e h.few h.served
      (turns_to start lists h.tally s t e none k r) in
      subst (λ (p : List Mark × Option (List ℕ)). EndedBy site stops limit start lists p.0 t.left p.1 e) (λ i. (sym marks i, sym written i))
      (record { tally = h.tally; calls = x.0; is = x.1 })

  -- what was sent so far
  pub sent_so_far : (start : Moment) (lists : Histories) (s : Sight) → s.out ≡ [] → (h : Served site stops limit start lists s)
      → Appends start.written s.written (exchanges_bytes site lists limit 0 h.served.calls s.marks)
  sent_so_far start lists s none h = Appends-kept start.written (append_known s.written s.out) s.written _ h.served.wrote (none_out s.written s.out none)

  -- what is no request is answered
  pub refuses : (start : Moment) (lists : Histories) (s t : Sight) (fault : HttpFault) → t.marks ≡ s.marks → t.written ≡ s.written → t.held ≡ s.held → t.left ≡ s.left → t.out ≡ fault_bytes fault → s.out ≡ []
      → HasFault fault s.held → Served site stops limit start lists s → Stands site stops limit start lists t (state.Writes (next.Refuses fault))
  refuses start lists s t fault marks written held left out none faulty h =
      let later = moment s.held s.left (append_known s.written (fault_bytes fault)) lists (last_reading start.reading s.marks) h.tally in
      let turn : TurnsTo (ahead_of start lists h.tally s) later (end.Refused fault) =
      (record { ahead_is = Keeps-refl (prepend_known s.held s.left); lists = refl; reading = refl; tally = refl }, faulty, added s.written s.out (fault_bytes fault) none) in
      let x = has_served-ended site stops limit start (length s.marks) s.marks (ahead_of start lists h.tally s) later (end.Refused fault) h.few h.served turn in
      let calls = refused_calls site stops limit start (length s.marks) s.marks (ahead_of start lists h.tally s) later fault h.few h.served turn in
      subst (λ (y : Sight). Stands site stops limit start lists y (state.Writes (next.Refuses fault)))
      (λ i. record { left = sym left i; written = sym written i; held = sym held i; out = sym out i; marks = sym marks i }) (
        exchanges_bytes site lists limit 0 h.served.calls s.marks,
        sent_so_far start lists s none h,
        (
          record { tally = h.tally; calls = x.0; is = x.1 },
          subst (λ cs. length (exchanges_bytes site lists limit 0 cs s.marks) ≤ length (exchanges_bytes site lists limit 0 h.served.calls s.marks)) (sym calls) (omega arith),
        ),
      )

  -- ---- a session that answers

  replies : (start : Moment) (earlier : ℕ) (c : Call) (now : ℕ) (marks : List Mark) (old new : Histories) (m : Mark) (status : ℕ) (text : List ℕ) → Responds site stops (call_asked site.users c) now old new m status text
      → Replies site stops limit earlier c (last_reading start.reading (marks ++ m ∷ [])) old new m (response_bytes status text (bytes_eq c.method (codes "HEAD")) (closes_after limit earlier c))
  replies start earlier c now marks old new m status text r = record {
    marks = record {
      now_is = sym (last_reading-more start.reading marks m);
      seen = r.marks.seen;
      begins = r.marks.begins;
      keeps = r.marks.keeps;
    };
    answer_is = ap (λ (a : Response). response_bytes a.status a.text (bytes_eq c.method (codes "HEAD")) (closes_after limit earlier c)) r.is;
  }

  -- an answer, with all that is told of it
  pub record Answered (start : Moment) (old new : Histories) (s : Sight) (c : Call) (m : Mark) (answer : List ℕ) : Type 0 where
    pub called : Called site stops limit start old s c
    pub now : ℕ
    pub first : ℕ
    pub status : ℕ
    pub text : List ℕ
    pub bytes_are : answer ≡ response_bytes status text (bytes_eq c.method (codes "HEAD")) (closes_after limit (length s.marks) c)
    pub responds : Responds site stops (call_asked site.users c) now old new m status text
    pub waits : WaitsFor site new m (call_asked site.users c) first

  module _ (start : Moment) (old new : Histories) (s : Sight) (c : Call) (m : Mark) (answer : List ℕ) (a : Answered start old new s c m answer) where
    abbrev pub before : Sight
    before = record s { held = a.called.bytes ++ s.held }

    abbrev pub after : Sight
    after = record s { out = answer; marks = s.marks ++ m ∷ [] }

    abbrev pub tally_after : Tally
    tally_after = told_tally site (call_asked site.users c) m a.first a.called.before.tally

    takes_as : (b : Bool) → c.close ≡ b → Takes ⊥ site stops limit (length s.marks) (ahead_of start old a.called.before.tally before) (ahead_of start new tally_after after) m b answer
    takes_as b is = record {
      call = c;
      bytes = a.called.bytes;
      is_call = a.called.is_call;
      took = gone s.left a.called.bytes s.held;
      closes_is = is;
      replies = subst (λ bytes. Replies site stops limit (length s.marks) c (last_reading start.reading (s.marks ++ m ∷ [])) old new m bytes) (sym a.bytes_are)
          (replies start (length s.marks) c a.now s.marks old new m a.status a.text a.responds);
      tallies = tallied_told site new (call_asked site.users c) m a.first a.called.before.tally a.waits;
    }

    wrote : Appends (append_known s.written s.out) (append_known s.written answer) answer
    wrote = added s.written s.out answer a.called.empty

    abbrev pub sent : List ℕ
    sent = exchanges_bytes site old limit 0 a.called.before.served.calls s.marks

    sends : Appends start.written s.written sent
    sends = sent_so_far start old before a.called.empty a.called.before

    -- all earlier bytes were sent
    earlier_sent : (calls : List Call) → calls ≡ a.called.before.served.calls ++ c ∷ [] → length (earlier_bytes site limit new calls (s.marks ++ m ∷ [])) ≤ length sent
    unfolding takes_as
    earlier_sent calls is =
        let same : exchanges_bytes site new limit 0 (all_but_last (a.called.before.served.calls ++ c ∷ [])) (s.marks ++ m ∷ []) ≡ sent =
        before_last site stops limit ⊥ start (length s.marks) s.marks (ahead_of start old a.called.before.tally before) (ahead_of start new tally_after after) m c.close answer a.called.before.served (takes_as c.close refl) in
        subst (λ cs. length (earlier_bytes site limit new cs (s.marks ++ m ∷ [])) ≤ length sent) (sym is) (omega (arith, ap length same))

    goes_by : c.close ≡ false → Exchanges site stops limit (length s.marks) (ahead_of start old a.called.before.tally before) (ahead_of start new tally_after after) m false
    goes_by goes = record { answer = answer; takes = takes_as false goes; wrote = wrote }

    takes_call : (b : Bool) (is : c.close ≡ b) → (takes_as b is).call ≡ c
    unfolding takes_as
    takes_call b is = refl

    went : c.close ≡ false → HasServed site stops limit start (length s.marks + 1) (s.marks ++ m ∷ []) (ahead_of start new tally_after after)
    went goes =
        has_served-next site stops limit start (length s.marks) s.marks (ahead_of start old a.called.before.tally before) (ahead_of start new tally_after after) m a.called.before.served (goes_by goes)

    went_calls : (goes : c.close ≡ false) → (went goes).calls ≡ a.called.before.served.calls ++ c ∷ []
    unfolding went goes_by
    went_calls goes =
        next_calls site stops limit start (length s.marks) s.marks (ahead_of start old a.called.before.tally before) (ahead_of start new tally_after after) m a.called.before.served (goes_by goes)
        ∙ ap (λ x. a.called.before.served.calls ++ x ∷ []) (takes_call false goes)

    one_more : length (s.marks ++ m ∷ []) ≡ length s.marks + 1
    one_more = omega (arith, length-append s.marks (m ∷ []))

    -- the request asked to close
    pub asked : c.close ≡ true → Stands site stops limit start new after (state.Writes next.Asks)
    asked ends =
        let turn : Turns site stops limit (length s.marks) (ahead_of start old a.called.before.tally before) (ahead_of start new tally_after after) (step.Last m end.Asked) =
        record { answer = answer; takes = takes_as true ends; wrote = wrote } in
        let x = has_served-last site stops limit start (length s.marks) s.marks (ahead_of start old a.called.before.tally before) (ahead_of start new tally_after after) m end.Asked a.called.before.few a.called.before.served turn in
        let calls = asked_calls site stops limit start (length s.marks) s.marks (ahead_of start old a.called.before.tally before) (ahead_of start new tally_after after) m a.called.before.few a.called.before.served turn in
        (sent, sends, (record { tally = tally_after; calls = x.0; is = x.1 }, earlier_sent x.0 (calls ∙ ap (λ y. a.called.before.served.calls ++ y ∷ []) (takes_call true ends))))

    -- so many were answered as a connection is served
    pub filled : c.close ≡ false → length s.marks + 1 ≡ limit → Stands site stops limit start new after (state.Writes next.Fills)
    filled goes all =
        let x = has_served-full site stops limit start (length s.marks + 1) (s.marks ++ m ∷ []) (ahead_of start new tally_after after) all (went goes) in
        let calls = full_calls site stops limit start (length s.marks + 1) (s.marks ++ m ∷ []) (ahead_of start new tally_after after) all (went goes) in
        (sent, sends, (record { tally = tally_after; calls = x.0; is = x.1 }, earlier_sent x.0 (calls ∙ went_calls goes)))

    -- there may be one more
    pub goes_on : c.close ≡ false → (length s.marks + 1 ≡ limit → ⊥) → Stands site stops limit start new after (state.Writes next.Reads)
    goes_on goes some =
        let w = went goes in
        let more : HasServed site stops limit start (length (s.marks ++ m ∷ [])) (s.marks ++ m ∷ []) (ahead_of start new tally_after after) = record {
          calls = w.calls;
          front = w.front;
          taken = w.taken;
          are_calls = w.are_calls;
          count = w.count ∙ sym one_more;
          none_ends = w.none_ends;
          turns = w.turns;
          last = w.last;
          begins = w.begins;
          reading_is = w.reading_is;
          tallied = w.tallied;
          wrote = w.wrote;
        } in (
          sent,
          sends,
          (
            record {
              few = omega (arith, one_more, less (length s.marks + 1) limit (omega (arith, a.called.before.few)) some);
              tally = tally_after;
              served = more;
            },
            earlier_sent w.calls (went_calls goes),
          ),
        )

  -- ---- a session that writes

  failed : (start : Moment) (lists : Histories) (marks : List Mark) (left written : Option (List ℕ)) (out sent : List ℕ) (e : End) → Appends start.written written sent
      → (x : EndedBy site stops limit start lists marks left (append_known written out) e) → length (earlier_bytes site limit lists x.calls marks) ≤ length sent
      → Appends start.written (append_known written out) (exchanges_bytes site lists limit 0 x.calls marks)
      → (Leaves e start.written (append_known written out) (earlier_bytes site limit lists x.calls marks) → ⊥)
      → EndedBy site stops limit start lists marks left written end.WriteFault
  failed start lists marks left written out sent e sends x l wrote never =
      let earlier = earlier_bytes site limit lists x.calls marks in record {
        tally = x.tally;
        calls = x.calls;
        is = record {
          front = x.is.front;
          rest = x.is.rest;
          taken = x.is.taken;
          are_calls = x.is.are_calls;
          turns = x.is.turns;
          last = x.is.last;
          begins = x.is.begins;
          reading_is = x.is.reading_is;
          tallied = tallied_for (Leaves e start.written (append_known written out) earlier) (Leaves end.WriteFault start.written written earlier) (λ n. absurd (never n)) site lists x.calls marks start.tally x.tally x.is.tallied;
          within = x.is.within;
          none_earlier = x.is.none_earlier;
          ends_by = tt;
          written = inl (all_past start.written written out _ sent earlier l sends wrote);
        };
      }

  refused : (start : Moment) (lists : Histories) (marks : List Mark) (left written : Option (List ℕ)) (out sent : List ℕ) (fault : HttpFault) → Appends start.written written sent
      → (x : EndedBy site stops limit start lists marks left (append_known written out) (end.Refused fault)) → length (exchanges_bytes site lists limit 0 x.calls marks) ≤ length sent
      → EndedBy site stops limit start lists marks left written end.WriteFault
  refused start lists marks left written out sent fault sends x l =
      let earlier = earlier_bytes site limit lists x.calls marks in record {
        tally = x.tally;
        calls = x.calls;
        is = record {
          front = x.is.front;
          rest = x.is.rest;
          taken = x.is.taken;
          are_calls = x.is.are_calls;
          turns = x.is.turns;
          last = x.is.last;
          begins = x.is.begins;
          reading_is = x.is.reading_is;
          tallied = tallied_for ⊥ (Leaves end.WriteFault start.written written earlier) (λ n. absurd n) site lists x.calls marks start.tally x.tally x.is.tallied;
          within = x.is.within;
          none_earlier = x.is.none_earlier;
          ends_by = tt;
          written = inr (fault, x.is.ends_by.1, all_past start.written written out _ sent (exchanges_bytes site lists limit 0 x.calls marks) l sends x.is.written);
        };
      }

  pub fails : (start : Moment) (lists : Histories) (s t : Sight) (n : Next) → t.marks ≡ s.marks → t.written ≡ s.written → t.left ≡ s.left → Stands site stops limit start lists s (state.Writes n)
      → Stands site stops limit start lists t (state.Ended end.WriteFault)
  fails start lists s t n marks written left h =
      subst (λ (p : List Mark × (Option (List ℕ) × Option (List ℕ))). EndedBy site stops limit start lists p.0 p.1.0 p.1.1 end.WriteFault) (λ i. (sym marks i, (sym left i, sym written i)))
      (by n h.2)
    where
      by : (n : Next) → Then site stops limit start lists s h.0 n → EndedBy site stops limit start lists s.marks s.left s.written end.WriteFault
      by next.Reads x =
          let y = has_served-short site stops limit start (length s.marks) s.marks (ahead_of start lists x.0.tally s) x.0.few x.0.served in
          let calls = short_calls site stops limit start (length s.marks) s.marks (ahead_of start lists x.0.tally s) x.0.few x.0.served in
          failed start lists s.marks s.left s.written s.out h.0 (end.Memory refused_memory) h.1 (record { tally = x.0.tally; calls = y.0; is = y.1 })
          (subst (λ cs. length (earlier_bytes site limit lists cs s.marks) ≤ length h.0) (sym calls) x.1) y.1.written (λ n. n)
      by next.Asks x = failed start lists s.marks s.left s.written s.out h.0 end.Asked h.1 x.0 x.1 x.0.is.written (λ n. n)
      by next.Fills x = failed start lists s.marks s.left s.written s.out h.0 end.Full h.1 x.0 x.1 x.0.is.written (λ n. n)
      by (next.Refuses fault) x = refused start lists s.marks s.left s.written s.out h.0 fault h.1 x.0 x.1

  -- bytes of the answer were put
  pub puts : (start : Moment) (lists : Histories) (s t : Sight) (n : Next) (sent : List ℕ) → t.marks ≡ s.marks → t.held ≡ s.held → t.left ≡ s.left → Appends s.written t.written sent → s.out ≡ sent ++ t.out
      → Stands site stops limit start lists s (state.Writes n) → Stands site stops limit start lists t (state.Writes n)
  unfolding kept ended_kept
  puts start lists s t n now marks held left sends_now out h =
      subst (λ (x : Sight). Stands site stops limit start lists x (state.Writes n)) (λ i. record { left = sym left i; written = t.written; held = sym held i; out = t.out; marks = sym marks i })
      (h.0 ++ now, Appends-trans start.written s.written t.written h.0 now h.1 sends_now, by n h.2)
    where
      k : Keeps (append_known s.written s.out) (append_known t.written t.out)
      k = append_known-moved s.written t.written now t.out s.out sends_now out

      by : (n : Next) → Then site stops limit start lists s h.0 n → Then site stops limit start lists (record s { written = t.written; out = t.out }) (h.0 ++ now) n
      by next.Reads x = (
        record {
          few = x.0.few;
          tally = x.0.tally;
          served = kept start (length s.marks) s.marks s.held s.held s.left s.left (append_known s.written s.out) (append_known t.written t.out) lists (last_reading start.reading s.marks) x.0.tally
              (Keeps-refl (prepend_known s.held s.left)) k x.0.served;
        },
        sent_more _ h.0 now x.1,
      )
      by next.Asks x = (ended_kept start lists s.marks s.left (append_known s.written s.out) (append_known t.written t.out) end.Asked k x.0, sent_more _ h.0 now x.1)
      by next.Fills x = (ended_kept start lists s.marks s.left (append_known s.written s.out) (append_known t.written t.out) end.Full k x.0, sent_more _ h.0 now x.1)
      by (next.Refuses fault) x = (ended_kept start lists s.marks s.left (append_known s.written s.out) (append_known t.written t.out) (end.Refused fault) k x.0, sent_more _ h.0 now x.1)

  -- all of the answer was put
  pub all_put : (start : Moment) (lists : Histories) (marks : List Mark) (left written : Option (List ℕ)) (out : List ℕ) (e : End) → out ≡ []
      → EndedBy site stops limit start lists marks left (append_known written out) e → EndedBy site stops limit start lists marks left written e
  all_put start lists marks left written out e none h = subst (λ w. EndedBy site stops limit start lists marks left w e) (all_out written out none) h

  -- ---- a session that begins, and one that stays

  pub same_stands : (start : Moment) (lists : Histories) (s t : Sight) (n : State) → t.marks ≡ s.marks → t.written ≡ s.written → t.held ≡ s.held → t.left ≡ s.left → t.out ≡ s.out
      → Stands site stops limit start lists s n → Stands site stops limit start lists t n
  same_stands start lists s t n marks written held left out h =
      subst (λ (x : Sight). Stands site stops limit start lists x n) (λ i. record { left = sym left i; written = sym written i; held = sym held i; out = sym out i; marks = sym marks i }) h

  -- memory is wanting for one mark more
  pub short : (start : Moment) (lists : Histories) (s : Sight) (c : Call) (m : Memory) → Called site stops limit start lists s c → Stands site stops limit start lists s (state.Ended (end.Memory m))
  short start lists s c m h =
      let b : Sight = record s { held = h.bytes ++ s.held } in
      let later = moment b.held s.left s.written lists (last_reading start.reading s.marks) h.before.tally in
      let turn : TurnsTo (ahead_of start lists h.before.tally b) later (end.Memory m) =
      (record { ahead_is = Keeps-refl (prepend_known b.held b.left); lists = refl; reading = refl; tally = refl }, none_out s.written s.out h.empty) in
      let x = has_served-ended site stops limit start (length s.marks) s.marks (ahead_of start lists h.before.tally b) later (end.Memory m) h.before.few h.before.served turn in
      record { tally = h.before.tally; calls = x.0; is = x.1 }

  abbrev pub fresh : Option (List ℕ) → Option (List ℕ) → Sight
  fresh left written = record { left = left; written = written; held = []; out = []; marks = [] }

  pub starts : (left written : Option (List ℕ)) (all : Histories) (reading : ℕ) (tally : Tally) → 0 < limit → Stands site stops limit (moment [] left written all reading tally) all (fresh left written) state.Head
  starts left written all reading tally some =
      let start = moment [] left written all reading tally in (
        refl,
        record {
          few = some;
          tally = tally;
          served = subst (λ w. HasServed site stops limit start 0 [] (moment [] left w all reading tally)) (sym (all_out written [] refl)) (has_served-start site stops limit start [] refl);
        },
      )

  pub starts_full : (left written : Option (List ℕ)) (all : Histories) (reading : ℕ) (tally : Tally) → 0 ≡ limit → Stands site stops limit (moment [] left written all reading tally) all (fresh left written) (state.Ended end.Full)
  starts_full left written all reading tally none =
      let x = has_served-nothing site stops limit (moment [] left written all reading tally) none in
      record { tally = tally; calls = x.0; is = x.1 }

  pub starts_by : (left written : Option (List ℕ)) (all : Histories) (reading : ℕ) (tally : Tally) (t : State) → IsFirst limit t → Stands site stops limit (moment [] left written all reading tally) all (fresh left written) t
  starts_by left written all reading tally state.Head h = starts left written all reading tally h
  starts_by left written all reading tally (state.Ended end.Full) h = starts_full left written all reading tally (sym h)
  starts_by left written all reading tally (state.Ended end.Closed) h = absurd h
  starts_by left written all reading tally (state.Ended end.Asked) h = absurd h
  starts_by left written all reading tally (state.Ended end.Cut) h = absurd h
  starts_by left written all reading tally (state.Ended (end.Refused fault)) h = absurd h
  starts_by left written all reading tally (state.Ended end.ReadFault) h = absurd h
  starts_by left written all reading tally (state.Ended end.WriteFault) h = absurd h
  starts_by left written all reading tally (state.Ended (end.Memory m)) h = absurd h
  starts_by left written all reading tally (state.Body d) h = absurd h
  starts_by left written all reading tally (state.Rests r) h = absurd h
  starts_by left written all reading tally (state.Writes n) h = absurd h
