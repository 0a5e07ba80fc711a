-- The mark and the bytes of an answer.
use Rattle.std.proofs.Common.{◌≡◌, ℕ, inl, inr, List, [], Bool, true, false, cond, Ok, Err, Option, Some, None, bytes_eq, codes, refl, sym, ap, ◌∙◌, subst}
use Rattle.std.specs.Io.KnownBytes.{Appends}
use Rattle.std.proofs.KnownBytes.{Appends-nil}
use Rattle.mx_core.specs.declared.history.Stored.{Stored}
use Rattle.mx_http.specs.Answers.{response_bytes}
use Rattle.mx_http.specs.declared.call.Call.{Call}
use Rattle.mx_json.specs.Texts.{json_text}
use Rattle.mx_api.specs.Errors.{refused_json, refused_status}
use Rattle.mx_api.specs.declared.refused.Refused.{Refused}
use Rattle.mx_render.specs.Rendered.{no_memory_text, said_status, said_text}
use Rattle.mx_writers.specs.Decision.{Placing}
use Rattle.mx_fold.specs.Lists.{Histories, lists_of}
use Rattle.mx_poll.specs.Acts.Acts.{Act, Files, Marks, Notes, Puts, Reads, Sends, asked}
use Rattle.mx_wait.specs.declared.names.StreamName.{StreamName}
use Rattle.mx_wait.specs.declared.names.StreamName.TheVariants.{Accounts, Events, Receipts}
use Rattle.mx_poll.specs.OfEngine.Answers.{IsAnswered, KeepsAct, KeepsBoth, KeepsEntry, KeepsMarker, KeepsNote, KeepsPut, KeepsReceipt, KeepsWrites, LeavesReceipts, Stops, TellsMarker, act_said, counts_of, filed, of_marker, reading}
use Rattle.mx_poll.specs.Aims.Stored.{EntryAimed, EntryPut, Note, NoteAimed, ReceiptAimed, ReceiptPut, marker_put, receipts_put}
use Rattle.mx_poll.specs.Aims.Asked.{Site}
use Rattle.mx_poll.specs.OfEngine.Written.{Bound, KeepsMark}
use Rattle.mx_poll.specs.OfEngine.Answered.{Answered}
use Rattle.mx_poll.specs.OfEngine.Mark.{Mark}
use Rattle.mx_ids.specs.Memory.{refused_memory}
use Rattle.mx_poll.specs.OfEngine.Unstored.{Unstored}
use Rattle.mx_poll.specs.OfEngine.UnstoredVariants as unstored
use Rattle.mx_ask.specs.declared.ask.Ask.{Ask}
use Rattle.mx_ask.specs.declared.ask.Who.{Who}
use Rattle.mx_ask.specs.declared.said.Said.{Said}
use Rattle.mx_ask.specs.declared.said.Said.TheVariants as said
use Rattle.mx_poll.proofs.OfEngine.Done.{all_self, none_done}
use Rattle.mx_serve.specs.declared.call_asked.CallAsked.{CallAsked}
use Rattle.mx_serve.specs.declared.call_asked.CallAsked.TheVariants as call
use Rattle.mx_serve.specs.declared.ended.End.TheVariants as end
use Rattle.mx_serve.specs.declared.ended.Step.{Step}
use Rattle.mx_serve.specs.declared.ended.Step.TheVariants as step
use Rattle.mx_serve.specs.Answers.{IsIdle, KeepsCall, Response, asked_response, response, response_to}
use Rattle.mx_serve.specs.Asked.{call_asked}
use Rattle.mx_serve.specs.Exchanges.{closes_after}
use Rattle.mx_serve.specs.Steps.{Answers, Renders, Replies, Responds, Writes}

-- the mark of an answer for which the engine isn't asked
abbrev pub blank : Bool → ℕ → Histories → Mark
blank memory now lists = record (reading now lists) { memory = memory }

pub idle_blank : (memory : Bool) (now : ℕ) (lists : Histories) → IsIdle (blank memory now lists) (counts_of lists)
idle_blank memory now lists = record { read = record { lane = refl; own_is = refl; unstored_is = refl; told = refl }; marker_is = refl; marker_told_is = refl; same = refl }

pub same_response : (status_a status_b : ℕ) (text_a text_b : List ℕ) → status_a ≡ status_b → text_a ≡ text_b → response status_a text_a ≡ response status_b text_b
same_response status_a status_b text_a text_b p q = λ i. response (p i) (q i)

-- a mark under which memory was wanting
module _ {I : Type 0} (name : StreamName) (place : Placing I) (k : ℕ) (bound : Bound) (items : List I) (m : Mark) (old new : List (Stored I)) where
  wanting_mark : KeepsMark name place k bound items m old new → KeepsMark name place k bound items (record m { memory = true }) old new
  wanting_mark h = record { decided = λ e. absurd cc; placed = h.placed; writer = h.writer; from = h.from; upto = h.upto; all = h.all; stored = h.stored; nothing = λ own e. absurd cc; full = h.full; lost = h.lost; told = h.told; untold = h.untold }

module _ (site : Site) (stops : Stops) where
  wanting_entry : (m : Mark) (old new : Histories) (w : EntryPut) → KeepsEntry stops m old new w → KeepsEntry stops (record m { memory = true }) old new w
  wanting_entry m old new w h = wanting_mark Accounts _ _ _ _ m old.accounts new.accounts h

  wanting_put : (m : Mark) (old new : Histories) (aimed : EntryAimed) → KeepsPut stops m old new aimed → KeepsPut stops (record m { memory = true }) old new aimed
  wanting_put m old new (Err r) h = record { lane = h.lane; own_is = h.own_is; unstored_is = h.unstored_is; told = h.told }
  wanting_put m old new (Ok w) h = wanting_entry m old new w h

  wanting_marked : (m : Mark) (old new : Histories) (aimed : ReceiptAimed) → KeepsReceipt stops m old new aimed → KeepsReceipt stops (record m { memory = true }) old new aimed
  wanting_marked m old new (Err r) h = record { lane = h.lane; own_is = h.own_is; unstored_is = h.unstored_is; told = h.told }
  wanting_marked m old new (Ok w) h = wanting_mark Receipts _ _ _ _ m old.receipts new.receipts h

  wanting_left : (m : Mark) (new : Histories) (w : ReceiptPut) (why : Option Unstored) → LeavesReceipts stops m new w why → LeavesReceipts stops (record m { memory = true }) new w why
  wanting_left m new w None h = λ e. absurd cc
  wanting_left m new w (Some (unstored.Full next)) h = h
  wanting_left m new w (Some unstored.Lost) h = h

  wanting_marker : (m : Mark) (old new : Histories) (n : Note) (at : Option ℕ) → KeepsMarker stops m old new n at → KeepsMarker stops (record m { memory = true }) old new n at
  wanting_marker m old new n None h = wanting_entry m old new (marker_put n) h
  wanting_marker m old new n (Some at) h = (wanting_entry (record m { unstored = None }) old new (marker_put n) h.0, wanting_left m new (receipts_put n) m.unstored h.1)

  wanting_both : (m : Mark) (old new : Histories) (n : Note) (marker : Option (ℕ × ℕ)) → KeepsBoth stops m old new n marker → KeepsBoth stops (record m { memory = true }) old new n marker
  wanting_both m old new n None h = wanting_marker m old new n m.own h
  wanting_both m old new n (Some at) h = (wanting_entry (of_marker m n.writer at) old new (marker_put n) h.0, wanting_marked m old new (Ok (receipts_put n)) h.1)

  wanting_note : (m : Mark) (old new : Histories) (aimed : NoteAimed) → KeepsNote stops m old new aimed → KeepsNote stops (record m { memory = true }) old new aimed
  wanting_note m old new (Err r) h = (record { lane = h.0.lane; own_is = h.0.own_is; unstored_is = h.0.unstored_is; told = h.0.told }, h.1)
  wanting_note m old new (Ok n) h = wanting_both m old new n m.marker h

  wanting_writes : (act : Act) (m : Mark) (old new : Histories) → KeepsWrites stops act m old new → KeepsWrites stops act (record m { memory = true }) old new
  wanting_writes (Reads reads) m old new h = record { lane = h.lane; own_is = h.own_is; unstored_is = h.unstored_is; told = h.told }
  wanting_writes (Sends (Err r)) m old new h = record { lane = h.lane; own_is = h.own_is; unstored_is = h.unstored_is; told = h.told }
  wanting_writes (Sends (Ok w)) m old new h = wanting_mark Events _ _ _ _ m old.events new.events h
  wanting_writes (Files k user filter) m old new h = wanting_entry m old new (filed k user filter) h
  wanting_writes (Puts aims) m old new h = wanting_put m old new (aims (lists_of new).events) h
  wanting_writes (Marks aims) m old new h = wanting_marked m old new (aims (lists_of new).events) h
  wanting_writes (Notes aims) m old new h = wanting_note m old new (aims (lists_of new).events) h

  wanting_tells : (act : Act) (m : Mark) → TellsMarker act m → TellsMarker act (record m { memory = true })
  wanting_tells (Reads reads) m h = h
  wanting_tells (Sends aimed) m h = h
  wanting_tells (Files k user filter) m h = h
  wanting_tells (Puts aims) m h = h
  wanting_tells (Marks aims) m h = h
  wanting_tells (Notes aims) m h = h

  pub wanting : (act : Act) (m : Mark) (old new : Histories) → KeepsAct stops act m old new → KeepsAct stops act (record m { memory = true }) old new
  wanting act m old new h = (wanting_writes act m old new h.0, wanting_tells act m h.1)

  -- ---- where the engine isn't asked

  idle_responds : (asks : CallAsked) (memory : Bool) (last now : ℕ) (lists : Histories) (m : Mark) (status : ℕ) (text : List ℕ) → last ≡ now → m ≡ blank memory now lists
      → KeepsCall site stops asks (blank memory now lists) (counts_of lists) lists lists → response status text ≡ response_to site lists (blank memory now lists) asks
      → Responds site stops asks last lists lists m status text
  idle_responds asks memory last now lists m status text read is keeps told =
      subst (λ n. Responds site stops asks last lists lists n status text) (sym is)
      (record { marks = record { now_is = sym read; seen = refl; begins = all_self lists; keeps = keeps }; is = told })

  pub options_responds : (last now : ℕ) (lists : Histories) (m : Mark) (status : ℕ) (text : List ℕ) → last ≡ now → m ≡ blank false now lists → response status text ≡ asked_response site lists m call.Options
      → Responds site stops call.Options last lists lists m status text
  options_responds last now lists m status text read is told = idle_responds call.Options false last now lists m status text read is (idle_blank false now lists) told

  pub versions_responds : (last now : ℕ) (lists : Histories) (m : Mark) (status : ℕ) (text : List ℕ) → last ≡ now → m ≡ blank false now lists → response status text ≡ asked_response site lists m call.Versions
      → Responds site stops call.Versions last lists lists m status text
  versions_responds last now lists m status text read is told = idle_responds call.Versions false last now lists m status text read is (idle_blank false now lists) told

  pub refused_responds : (r : Refused) (last now : ℕ) (lists : Histories) (m : Mark) (status : ℕ) (text : List ℕ) → last ≡ now → m ≡ blank false now lists → status ≡ refused_status r → text ≡ json_text (refused_json r)
      → Responds site stops (call.Refused r) last lists lists m status text
  refused_responds r last now lists m status text read is st tx =
      idle_responds (call.Refused r) false last now lists m status text read is (idle_blank false now lists) (same_response status (refused_status r) text (json_text (refused_json r)) st tx)

  blank_kept : (asks : CallAsked) (now : ℕ) (lists : Histories) → KeepsCall site stops asks (blank true now lists) (counts_of lists) lists lists
  blank_kept call.Options now lists = idle_blank true now lists
  blank_kept call.Versions now lists = idle_blank true now lists
  blank_kept (call.Refused r) now lists = idle_blank true now lists
  blank_kept (call.Request r) now lists =
      (none_done stops (asked site now r.who r.ask) now lists lists (record { said = (said.NoMemory refused_memory); mark = blank true now lists }) (all_self lists) refl refl).keeps

  -- memory was wanting for what is asked, or for its refusal
  pub wanting_responds : (asks : CallAsked) (last now : ℕ) (lists : Histories) (m : Mark) (status : ℕ) (text : List ℕ) → last ≡ now → m ≡ blank true now lists → status ≡ 503 → text ≡ no_memory_text
      → Responds site stops asks last lists lists m status text
  wanting_responds asks last now lists m status text read is st tx = idle_responds asks true last now lists m status text read is (blank_kept asks now lists) (same_response status 503 text no_memory_text st tx)

  -- ---- what the engine answers

  told_response : (server : List ℕ) (device : ℕ) (memory : Bool) (s told : Said) → s ≡ cond memory (said.NoMemory refused_memory) told
      → response (said_status s) (said_text server device s) ≡ cond memory (response 503 no_memory_text) (response (said_status told) (said_text server device told))
  told_response server device true s told is = ap (λ x. response (said_status x) (said_text server device x)) is
  told_response server device false s told is = ap (λ x. response (said_status x) (said_text server device x)) is

  answered_responds : (who : Who) (ask : Ask) (now : ℕ) (old new : Histories) (a : Answered) (m : Mark) (status : ℕ) (text : List ℕ) → IsAnswered site stops now who ask old new a → a.mark.now ≡ now
      → Renders site.users.server who.device a m status text → Responds site stops (call.Request (record { who = who; ask = ask })) now old new m status text
  answered_responds who ask now old new a m status text h at (inl r) =
      let act = λ (n : ℕ). asked site n who ask in
      let asks : CallAsked = call.Request (record { who = who; ask = ask }) in
      subst (λ n. Responds site stops asks now old new n status text) (sym r.0)
      (record {
        marks = record { now_is = at; seen = h.seen; begins = h.begins; keeps = subst (λ n. KeepsAct stops (act n) a.mark old new) (sym at) h.keeps };
        is = same_response status (said_status a.said) text (said_text site.users.server who.device a.said) r.1 r.2
            ∙ told_response site.users.server who.device a.mark.memory a.said (act_said new a.mark (act a.mark.now)) (subst (λ n. a.said ≡ cond a.mark.memory (said.NoMemory refused_memory) (act_said new a.mark (act n))) (sym at) h.said_is);
      })
  answered_responds who ask now old new a m status text h at (inr r) =
      let act = λ (n : ℕ). asked site n who ask in
      let asks : CallAsked = call.Request (record { who = who; ask = ask }) in
      let n : Mark = record a.mark { memory = true } in
      subst (λ n. Responds site stops asks now old new n status text) (sym r.0)
      (record {
        marks = record { now_is = at; seen = h.seen; begins = h.begins; keeps = subst (λ k. KeepsAct stops (act k) n old new) (sym at) (wanting (act now) a.mark old new h.keeps) };
        is = same_response status 503 text no_memory_text r.1 r.2;
      })

  -- the same by the clock's last reading
  pub polled_responds : (who : Who) (ask : Ask) (last : ℕ) (old new : Histories) (a : Answered) (m : Mark) (status : ℕ) (text : List ℕ) → last ≡ a.mark.now → IsAnswered site stops a.mark.now who ask old new a
      → Renders site.users.server who.device a m status text → Responds site stops (call.Request (record { who = who; ask = ask })) last old new m status text
  polled_responds who ask last old new a m status text read h renders =
      subst (λ n. Responds site stops (call.Request (record { who = who; ask = ask })) n old new m status text) (sym read)
      (answered_responds who ask a.mark.now old new a m status text h refl renders)

  -- ---- the bytes

  reply_bytes : (limit earlier : ℕ) (c : Call) (now : ℕ) (old new : Histories) (m : Mark) (status : ℕ) (text : List ℕ) → Responds site stops (call_asked site.users c) now old new m status text
      → Replies site stops limit earlier c now old new m (response_bytes status text (bytes_eq c.method (codes "HEAD")) (closes_after limit earlier c))
  reply_bytes limit earlier c now old new m status text r = record {
    marks = r.marks;
    answer_is = ap (λ (a : Response). response_bytes a.status a.text (bytes_eq c.method (codes "HEAD")) (closes_after limit earlier c)) r.is;
  }

  pub written : (limit earlier : ℕ) (c : Call) (now : ℕ) (old new : Histories) (m : Mark) (status : ℕ) (text : List ℕ) (from to : Option (List ℕ)) (s : Step) → Responds site stops (call_asked site.users c) now old new m status text
      → Writes c m (response_bytes status text (bytes_eq c.method (codes "HEAD")) (closes_after limit earlier c)) from to s → Answers site stops limit earlier c now old new from to s
  written limit earlier c now old new m status text from to (step.Next n) r w =
      let bytes = response_bytes status text (bytes_eq c.method (codes "HEAD")) (closes_after limit earlier c) in
      (bytes, subst (λ k. Replies site stops limit earlier c now old new k bytes) (sym w.0) (reply_bytes limit earlier c now old new m status text r), w.1, w.2)
  written limit earlier c now old new m status text from to (step.Last n end.Asked) r w =
      let bytes = response_bytes status text (bytes_eq c.method (codes "HEAD")) (closes_after limit earlier c) in
      (bytes, subst (λ k. Replies site stops limit earlier c now old new k bytes) (sym w.0) (reply_bytes limit earlier c now old new m status text r), w.1, w.2)
  written limit earlier c now old new m status text from to (step.Last n end.WriteFault) r w =
      let bytes = response_bytes status text (bytes_eq c.method (codes "HEAD")) (closes_after limit earlier c) in
      (bytes, subst (λ k. Replies site stops limit earlier c now old new k bytes) (sym w.0) (reply_bytes limit earlier c now old new m status text r), w.1)
  written limit earlier c now old new m status text from to (step.Last n end.Closed) r w = absurd w
  written limit earlier c now old new m status text from to (step.Last n end.Full) r w = absurd w
  written limit earlier c now old new m status text from to (step.Last n end.Cut) r w = absurd w
  written limit earlier c now old new m status text from to (step.Last n (end.Refused _)) r w = absurd w
  written limit earlier c now old new m status text from to (step.Last n end.ReadFault) r w = absurd w
  written limit earlier c now old new m status text from to (step.Last n (end.Memory _)) r w = absurd w
  written limit earlier c now old new m status text from to (step.Ended e) r w = absurd w

  -- nothing of the answer is written
  pub unwritten : (limit earlier : ℕ) (c : Call) (now : ℕ) (old new : Histories) (m : Mark) (status : ℕ) (text : List ℕ) (from to : Option (List ℕ)) → to ≡ from → Responds site stops (call_asked site.users c) now old new m status text
      → Answers site stops limit earlier c now old new from to (step.Last m end.WriteFault)
  unwritten limit earlier c now old new m status text from to same r = (_, reply_bytes limit earlier c now old new m status text r, (0, subst (λ w. Appends from w []) (sym same) (Appends-nil from)))
