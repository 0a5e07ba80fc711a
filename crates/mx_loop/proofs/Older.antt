-- The law of a mark stands from older lists too: what was stored before an older moment was before.
use Rattle.std.proofs.Common.{◌≡◌, ℕ, List, Option, Some, None, Ok, Err, length, take, drop, sym, ap, ◌∙◌, subst, arith, length-append, take-append-drop}
use Rattle.std.proofs.lemmas.List.{length-take-le}
use Rattle.mx_core.specs.History.{own, Begins}
use Rattle.mx_core.specs.declared.history.Stored.{Stored}
use Rattle.mx_core.proofs.Histories.{begins_trans}
use Rattle.mx_core.proofs.Owns.{begins_own}
use Rattle.mx_wait.specs.declared.names.StreamName.{StreamName}
use Rattle.mx_writers.specs.Decision.{Placing}
use Rattle.mx_fold.specs.Lists.{Grows, Histories, lists_of}
use Rattle.mx_ask.specs.declared.ask.Request.{Request}
use Rattle.mx_poll.specs.Acts.Acts.{Act, Files, Marks, Notes, Puts, Reads, Sends, asked}
use Rattle.mx_poll.specs.Aims.Asked.{Site}
use Rattle.mx_poll.specs.Aims.Stored.{EntryAimed, EntryPut, Note, NoteAimed, ReceiptAimed, marker_put, receipts_put}
use Rattle.mx_poll.specs.OfEngine.Answers.{KeepsAct, KeepsBoth, KeepsEntry, KeepsMarker, KeepsNote, KeepsPut, KeepsReceipt, KeepsWrites, Stops, counts, counts_of, filed, of_marker}
use Rattle.mx_poll.specs.OfEngine.Counts.{Counts}
use Rattle.mx_poll.specs.OfEngine.Exchanges.{AtMost, first_of}
use Rattle.mx_poll.specs.OfEngine.Mark.{Mark}
use Rattle.mx_poll.specs.OfEngine.Written.{Bound, KeepsMark}
use Rattle.mx_poll.proofs.OfEngine.Exchanges.{at_exit, kept_first, longer}
use Rattle.mx_serve.specs.Answers.{response_to}
use Rattle.mx_serve.specs.Steps.{Responds}
use Rattle.mx_serve.specs.Tallies.{WaitsFor}
use Rattle.mx_serve.specs.declared.call_asked.CallAsked.TheVariants as call
use Rattle.mx_loop.specs.Seen.{RespondsSeen}

module _ {I : Type 0} (name : StreamName) (place : Placing I) (k : ℕ) (bound : Bound) (items : List I) (m : Mark) (older old new : List (Stored I)) (b : Begins older old) where
  older_mark : KeepsMark name place k bound items m old new → KeepsMark name place k bound items m older new
  older_mark h =
      let more : Begins (own older k) (own old k) = begins_own older old k b in
      record {
        decided = h.decided;
        placed = h.placed;
        writer = h.writer;
        from = λ n e. omega (arith, h.from n e, ap length more.1, length-append (own older k) more.0);
        upto = h.upto;
        all = h.all;
        stored = h.stored;
        nothing = h.nothing;
        full = h.full;
        lost = h.lost;
        told = h.told;
        untold = h.untold;
      }

module _ (stops : Stops) (older old new : Histories) (b : Grows older old) where
  older_entry : (m : Mark) (w : EntryPut) → KeepsEntry stops m old new w → KeepsEntry stops m older new w
  older_entry m w h = older_mark _ _ _ _ _ m older.accounts old.accounts new.accounts b.accounts h

  older_put : (m : Mark) (aimed : EntryAimed) → KeepsPut stops m old new aimed → KeepsPut stops m older new aimed
  older_put m (Err r) h = h
  older_put m (Ok w) h = older_entry m w h

  older_marked : (m : Mark) (aimed : ReceiptAimed) → KeepsReceipt stops m old new aimed → KeepsReceipt stops m older new aimed
  older_marked m (Err r) h = h
  older_marked m (Ok w) h = older_mark _ _ _ _ _ m older.receipts old.receipts new.receipts b.receipts h

  older_marker : (m : Mark) (n : Note) (at : Option ℕ) → KeepsMarker stops m old new n at → KeepsMarker stops m older new n at
  older_marker m n None h = older_entry m (marker_put n) h
  older_marker m n (Some at) h = (older_entry (record m { unstored = None }) (marker_put n) h.0, h.1)

  older_both : (m : Mark) (n : Note) (marker : Option (ℕ × ℕ)) → KeepsBoth stops m old new n marker → KeepsBoth stops m older new n marker
  older_both m n None h = older_marker m n m.own h
  older_both m n (Some at) h = (older_entry (of_marker m n.writer at) (marker_put n) h.0, older_marked m (Ok (receipts_put n)) h.1)

  older_note : (m : Mark) (aimed : NoteAimed) → KeepsNote stops m old new aimed → KeepsNote stops m older new aimed
  older_note m (Err r) h = h
  older_note m (Ok n) h = older_both m n m.marker h

  older_writes : (act : Act) (m : Mark) → KeepsWrites stops act m old new → KeepsWrites stops act m older new
  older_writes (Reads reads) m h = h
  older_writes (Sends (Err r)) m h = h
  older_writes (Sends (Ok w)) m h = older_mark _ _ _ _ _ m older.events old.events new.events b.events h
  older_writes (Files k user filter) m h = older_entry m (filed k user filter) h
  older_writes (Puts aims) m h = older_put m (aims (lists_of new).events) h
  older_writes (Marks aims) m h = older_marked m (aims (lists_of new).events) h
  older_writes (Notes aims) m h = older_note m (aims (lists_of new).events) h

  pub older_act : (act : Act) (m : Mark) → KeepsAct stops act m old new → KeepsAct stops act m older new
  older_act act m h = (older_writes act m h.0, h.1)

-- ---- the first stores

front : {A : Type 0} (n : ℕ) (xs : List A) → Begins (take n xs) xs
front n xs = (drop n xs, sym (take-append-drop n xs))

pub first_begins : (all : Histories) (n : Counts) → Grows (first_of all n) all
first_begins all n = record { events = front n.events all.events; receipts = front n.receipts all.receipts; accounts = front n.accounts all.accounts }

pub first_counts : (all : Histories) (n : Counts) → AtMost n (counts_of all) → counts_of (first_of all n) ≡ n
first_counts all n l = λ i. record {
  events = length-take-le n.events all.events l.events i;
  receipts = length-take-le n.receipts all.receipts l.receipts i;
  accounts = length-take-le n.accounts all.accounts l.accounts i;
}

pub at_most_self : (n : Counts) → AtMost n n
at_most_self n = record { events = omega arith; receipts = omega arith; accounts = omega arith }

grows_on : (a b c : Histories) → Grows a b → Grows b c → Grows a c
grows_on a b c p q = record {
  events = begins_trans a.events b.events c.events p.events q.events;
  receipts = begins_trans a.receipts b.receipts c.receipts p.receipts q.receipts;
  accounts = begins_trans a.accounts b.accounts c.accounts p.accounts q.accounts;
}

module _ (site : Site) (stops : Stops) where
  -- what the engine answers by a pass of many sessions is answered on what the one session has seen
  pub seen_responds : (r : Request) (first now : ℕ) (seen : Counts) (old new : Histories) (m : Mark) (status : ℕ) (text : List ℕ)
      → Responds site stops (call.Request r) now old new m status text → WaitsFor site new m (call.Request r) first → RespondsSeen site stops (call.Request r) first now seen old new m status text
  seen_responds r first now seen old new m status text h waits =
      let exit : new ≡ first_of new (counts m) = sym (ap (first_of new) h.marks.seen ∙ at_exit site stops new) in
      let act = asked site m.now r.who r.ask in
      let before = first_of old seen in
      record {
        grows = h.marks.begins;
        within = subst (λ c. AtMost c (counts_of new)) (sym h.marks.seen) (at_most_self (counts_of new));
        responds = record {
          marks = record {
            now_is = h.marks.now_is;
            seen = h.marks.seen ∙ ap counts_of exit;
            begins = subst (λ l. Grows before l) exit (grows_on before old new (first_begins old seen) h.marks.begins);
            keeps = subst (λ l. KeepsAct stops act m before l) exit (older_act stops before old new (first_begins old seen) act m h.marks.keeps);
          };
          is = h.is ∙ ap (λ l. response_to site l m (call.Request r)) exit;
        };
        waits = subst (λ l. WaitsFor site l m (call.Request r) first) exit waits;
      }

  -- what the others store later changes nothing of it
  pub first_later : (old new : Histories) (seen : Counts) → Grows old new → AtMost seen (counts_of old) → first_of old seen ≡ first_of new seen
  first_later old new seen b l = kept_first site stops old new b seen l

  pub at_most_on : (old new : Histories) (was : Counts) → AtMost was (counts_of old) → Grows old new → AtMost was (counts_of new)
  at_most_on old new was h grows = let l = longer site stops old new grows in record {
    events = omega (arith, h.events, l.events);
    receipts = omega (arith, h.receipts, l.receipts);
    accounts = omega (arith, h.accounts, l.accounts);
  }
