-- The stores of a connection whose pass alone may store.
use Rattle.std.proofs.Common.{◌≡◌, ℕ, ◌≤◌, List, [], ◌∷◌, ◌++◌, take, drop, sym, ap, ◌∙◌, subst, take-append-drop}
use Rattle.std.proofs.lemmas.List.{take-take}
use Rattle.mx_core.specs.History.{Begins}
use Rattle.mx_http.specs.declared.call.Call.{Call}
use Rattle.mx_fold.specs.Lists.{Grows, Histories}
use Rattle.mx_poll.specs.Acts.Acts.{asked}
use Rattle.mx_poll.specs.Aims.Asked.{Site}
use Rattle.mx_poll.specs.OfEngine.Answers.{Stops, counts, counts_of}
use Rattle.mx_poll.specs.OfEngine.Counts.{Counts}
use Rattle.mx_poll.specs.OfEngine.Exchanges.{AtMost, first_of}
use Rattle.mx_poll.specs.OfEngine.Mark.{Mark}
use Rattle.mx_poll.specs.OfEngine.Written.{Made}
use Rattle.mx_poll.proofs.OfEngine.Alone.{AddsAll, CountsAll, adds_for, adds_nothing, adds_then, all_told, counts_for, counts_nothing, counts_then}
use Rattle.mx_poll.proofs.OfEngine.Done.{all_self}
use Rattle.mx_poll.proofs.OfEngine.Exchanges.{at_exit, kept_first, longer}
use Rattle.mx_serve.specs.Answers.{KeepsCall}
use Rattle.mx_serve.specs.Asked.{call_asked}
use Rattle.mx_serve.specs.Exchanges.{AreTurns}
use Rattle.mx_serve.specs.Places.{StoresAreOwn, places_by, places_over}
use Rattle.mx_serve.specs.Tallies.{made_by, made_over}
use Rattle.mx_serve.specs.declared.call_asked.CallAsked.{CallAsked}
use Rattle.mx_serve.specs.declared.call_asked.CallAsked.TheVariants as call

-- ---- first stores begin one another

fronts_begin : {A : Type 0} (n m : ℕ) (xs : List A) → n ≤ m → Begins (take n xs) (take m xs)
fronts_begin n m xs le = (drop n (take m xs), sym (take-append-drop n (take m xs)) ∙ ap (λ l. l ++ drop n (take m xs)) (take-take n m xs le))

between : (all : Histories) (n m : Counts) → AtMost n m → Grows (first_of all n) (first_of all m)
between all n m le = record {
  events = fronts_begin n.events m.events all.events le.events;
  receipts = fronts_begin n.receipts m.receipts all.receipts le.receipts;
  accounts = fronts_begin n.accounts m.accounts all.accounts le.accounts;
}

begins_all : (all : Histories) (n : Counts) → Grows (first_of all n) all
begins_all all n = record {
  events = (drop n.events all.events, sym (take-append-drop n.events all.events));
  receipts = (drop n.receipts all.receipts, sym (take-append-drop n.receipts all.receipts));
  accounts = (drop n.accounts all.accounts, sym (take-append-drop n.accounts all.accounts));
}

module _ (site : Site) (stops : Stops) where
  adds_call : (asks : CallAsked) (m : Mark) (before : Counts) (old new : Histories) → Grows old new → KeepsCall site stops asks m before old new → AddsAll old new (places_by site asks m)
  adds_call call.Options m before old new g keeps = adds_nothing old new g
  adds_call call.Versions m before old new g keeps = adds_nothing old new g
  adds_call (call.Refused r) m before old new g keeps = adds_nothing old new g
  adds_call (call.Request r) m before old new g keeps = adds_for stops m old new g (asked site m.now r.who r.ask) keeps.0

  adds_over : (all : Histories) (before : Counts) (calls : List Call) (marks : List Mark) → AreTurns site stops all before calls marks → AddsAll (first_of all before) all (places_over site calls marks)
  adds_over all before [] [] h = adds_nothing (first_of all before) all (begins_all all before)
  adds_over all before (c ∷ calls) (m ∷ marks) h =
      let asks = call_asked site.users c in
      adds_then (first_of all before) (first_of all (counts m)) all (places_by site asks m) (places_over site calls marks)
      (adds_call asks m before (first_of all before) (first_of all (counts m)) (between all before (counts m) h.0.later) h.0.keeps)
      (adds_over all (counts m) calls marks h.1)
  adds_over all before (c ∷ calls) [] h = absurd h
  adds_over all before [] (m ∷ marks) h = absurd h

  counts_call : (asks : CallAsked) (m : Mark) (made : Made) → CountsAll made (made_by site asks m made) (places_by site asks m)
  counts_call call.Options m made = counts_nothing made
  counts_call call.Versions m made = counts_nothing made
  counts_call (call.Refused r) m made = counts_nothing made
  counts_call (call.Request r) m made = counts_for m made (asked site m.now r.who r.ask)

  counts_over : (calls : List Call) (marks : List Mark) (made : Made) → CountsAll made (made_over site calls marks made) (places_over site calls marks)
  counts_over [] marks made = counts_nothing made
  counts_over (c ∷ calls) [] made = counts_nothing made
  counts_over (c ∷ calls) (m ∷ marks) made =
      let asks = call_asked site.users c in
      let next = made_by site asks m made in
      counts_then made next (made_over site calls marks next) (places_by site asks m) (places_over site calls marks) (counts_call asks m made) (counts_over calls marks next)

pub stores_are_own : StoresAreOwn
stores_are_own site stops limit old new calls marks ended h before after alone =
    let entry : first_of new.lists (counts_of old.lists) ≡ old.lists =
    sym (kept_first site stops old.lists new.lists h.begins (counts_of old.lists) (longer site stops old.lists old.lists (all_self old.lists))) ∙ at_exit site stops old.lists in
    let adds = subst (λ l. AddsAll l new.lists (places_over site calls marks)) entry (adds_over site stops new.lists (counts_of old.lists) calls marks h.turns) in
    let counted = subst (λ made. CountsAll old.tally.made made (places_over site calls marks)) (sym h.tallied.made_is) (counts_over site stops calls marks old.tally.made) in
    all_told old.tally.made new.tally.made old.lists new.lists (places_over site calls marks) adds counted before after alone
