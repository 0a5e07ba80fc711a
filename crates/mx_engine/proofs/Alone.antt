-- Lists in which each store was made with one pass.
use Rattle.std.proofs.Common.{◌≡◌, ℕ, zero, suc, ◌+◌, ◌≤◌, eqb, List, [], ◌∷◌, ◌++◌, Option, Some, None, Ok, Err, length, length-append, append_assoc, append-nil, slice_get, refl, sym, ap, ◌∙◌, subst, inl, inr, arith}
use Rattle.std.proofs.lemmas.Bool.{cases_Bool}
use Rattle.std.proofs.lemmas.Option.{none-some, same_Some}
use Rattle.mx_core.specs.declared.history.Stored.{Stored}
use Rattle.mx_core.specs.History.{own, Begins}
use Rattle.mx_core.proofs.Owns.{own-append}
use Rattle.mx_writers.specs.Decision.{Placing, store_of}
use Rattle.mx_wait.specs.declared.names.StreamName.{StreamName}
use Rattle.mx_fold.specs.Lists.{Grows, Histories}
use Rattle.mx_acts.specs.Acts.{Act, Files, Marks, Notes, Puts, Reads, Sends}
use Rattle.mx_aims.specs.Stored.{EntryAimed, NoteAimed, ReceiptAimed, Note}
use Rattle.mx_engine.specs.Answers.{KeepsBoth, KeepsMarker, KeepsNote, KeepsPut, KeepsReceipt, KeepsWrites, Stops, made_for, made_marker, made_noted}
use Rattle.mx_engine.specs.Written.{Bound, KeepsMark, Made, made_after}
use Rattle.mx_engine.specs.Places.{HasAll, IsAlone, Places, firsts, firsts_of, followed_by, nowhere, one_at, places_for, places_noted}
use Rattle.mx_engine.specs.Shown.{made_of, stores_of}
use Rattle.mx_engine.specs.declared.answered.Mark.{Mark}
use Rattle.mx_engine.specs.declared.answered.Unstored.{Unstored}
use Rattle.mx_engine.specs.declared.held.EnginePass.{EnginePass}
use Rattle.mx_engine.specs.declared.seat.Counted.{Counted}

-- ---- a list of stores that grows

-- so many positions were stored at, or more; where no more were, it is by these that the list grew
pub record Adds {I : Type 0} (old new : List (Stored I)) (ps : List ℕ) : Type 0 where
  pub least : length old + length ps ≤ length new
  pub just : length new ≡ length old + length ps → firsts new ≡ firsts old ++ ps

firsts-append : {I : Type 0} (h more : List (Stored I)) → firsts (h ++ more) ≡ firsts h ++ firsts more
firsts-append [] more = refl
firsts-append (s ∷ h) more = ap (λ l. s.first ∷ l) (firsts-append h more)

pub adds_none : {I : Type 0} (old new : List (Stored I)) → Begins old new → Adds old new []
adds_none {I} old new b = subst (λ h. Adds old h []) (sym b.1) (by_rest b.0)
  where
    by_rest : (rest : List (Stored I)) → Adds old (old ++ rest) []
    by_rest [] = record { least = omega (arith, length-append old []); just = λ e. firsts-append old [] }
    by_rest (x ∷ rest) = record { least = omega (arith, length-append old (x ∷ rest)); just = λ e. absurd (omega (arith, e, length-append old (x ∷ rest))) }

pub adds_on : {I : Type 0} (a b c : List (Stored I)) (p q : List ℕ) → Adds a b p → Adds b c q → Adds a c (p ++ q)
adds_on a b c p q f g = record {
  least = omega (arith, f.least, g.least, length-append p q);
  just = λ e.
      let first : length b ≡ length a + length p = omega (arith, e, f.least, g.least, length-append p q) in
      let second : length c ≡ length b + length q = omega (arith, e, f.least, g.least, length-append p q) in
      g.just second ∙ (ap (λ l. l ++ q) (f.just first) ∙ append_assoc (firsts a) p q);
}

-- a store that follows those that there were of its writer
past_end : {A : Type 0} (xs : List A) (n : ℕ) → length xs ≤ n → slice_get xs n ≡ None
past_end [] n le = refl
past_end (x ∷ xs) zero le = absurd (omega (arith, le))
past_end (x ∷ xs) (suc n) le = past_end xs n (omega (arith, le))

at_end : {A : Type 0} (xs : List A) (x s : A) (n : ℕ) → length xs ≤ n → slice_get (xs ++ x ∷ []) n ≡ Some s → x ≡ s
at_end [] x s zero le e = same_Some x s e
at_end [] x s (suc n) le e = absurd (none-some s e)
at_end (y ∷ xs) x s zero le e = absurd (omega (arith, le))
at_end (y ∷ xs) x s (suc n) le e = at_end xs x s n (omega (arith, le)) e

adds_one : {I : Type 0} (k n : ℕ) (old new : List (Stored I)) (s : Stored I) → Begins old new → length (own old k) ≤ n → slice_get (own new k) n ≡ Some s → Adds old new (s.first ∷ [])
adds_one {I} k n old new s b le e = subst (λ h. Adds old h (s.first ∷ [])) (sym b.1) (by_rest b.0 (subst (λ h. slice_get (own h k) n ≡ Some s) b.1 e))
  where
    by_one : (x : Stored I) → slice_get (own (old ++ x ∷ []) k) n ≡ Some s → x ≡ s
    by_one x at = elim (cases_Bool (eqb x.writer k)) [
      | inl is ↦ at_end (own old k) x s n le (sym (ap (λ l. slice_get l n) (own-append old (x ∷ []) k ∙ rw is refl)) ∙ at)
      | inr not ↦ absurd (none-some s (sym (past_end (own old k) n le) ∙ (sym (ap (λ l. slice_get l n) (own-append old (x ∷ []) k ∙ rw not (append-nil (own old k)))) ∙ at)))
    ]

    by_rest : (rest : List (Stored I)) → slice_get (own (old ++ rest) k) n ≡ Some s → Adds old (old ++ rest) (s.first ∷ [])
    by_rest [] at = absurd (none-some s (sym (past_end (own old k) n le) ∙ (sym (ap (λ l. slice_get (own l k) n) (append-nil old)) ∙ at)))
    by_rest (x ∷ []) at = record {
      least = omega (arith, length-append old (x ∷ []));
      just = λ _. firsts-append old (x ∷ []) ∙ ap (λ (y : Stored I). firsts old ++ y.first ∷ []) (by_one x at);
    }
    by_rest (x ∷ y ∷ rest) at = record {
      least = omega (arith, length-append old (x ∷ y ∷ rest));
      just = λ same. absurd (omega (arith, same, length-append old (x ∷ y ∷ rest)));
    }

-- ---- the own write of a mark

adds_mark : {I : Type 0} (name : StreamName) (place : Placing I) (k : ℕ) (bound : Bound) (items : List I) (m : Mark) (old new : List (Stored I)) (o : Option ℕ) → m.own ≡ o → Begins old new
    → KeepsMark name place k bound items m old new → Adds old new (one_at o)
adds_mark name place k bound items m old new None is b keeps = adds_none old new b
adds_mark name place k bound items m old new (Some p) is b keeps =
    let lane = keeps.placed p is in
    adds_one k lane.0 old new (store_of place k p items) b (keeps.from lane.0 lane.1) (keeps.stored lane.0 p lane.1 is)

adds_read : {I : Type 0} (m : Mark) (old new : List (Stored I)) → Begins old new → m.own ≡ None → Adds old new (one_at m.own)
adds_read m old new b none = subst (λ o. Adds old new (one_at o)) (sym none) (adds_none old new b)

-- of each stream
pub record AddsAll (old new : Histories) (ps : Places) : Type 0 where
  pub events : Adds old.events new.events ps.events
  pub receipts : Adds old.receipts new.receipts ps.receipts
  pub accounts : Adds old.accounts new.accounts ps.accounts

pub adds_nothing : (old new : Histories) → Grows old new → AddsAll old new nowhere
adds_nothing old new g = record {
  events = adds_none old.events new.events g.events;
  receipts = adds_none old.receipts new.receipts g.receipts;
  accounts = adds_none old.accounts new.accounts g.accounts;
}

pub adds_then : (a b c : Histories) (p q : Places) → AddsAll a b p → AddsAll b c q → AddsAll a c (followed_by p q)
adds_then a b c p q f g = record {
  events = adds_on a.events b.events c.events p.events q.events f.events g.events;
  receipts = adds_on a.receipts b.receipts c.receipts p.receipts q.receipts f.receipts g.receipts;
  accounts = adds_on a.accounts b.accounts c.accounts p.accounts q.accounts f.accounts g.accounts;
}

module _ (stops : Stops) (m : Mark) (old new : Histories) (g : Grows old new) where
  in_events : Adds old.events new.events (one_at m.own) → AddsAll old new (record nowhere { events = one_at m.own })
  in_events a = record { events = a; receipts = adds_none old.receipts new.receipts g.receipts; accounts = adds_none old.accounts new.accounts g.accounts }

  in_accounts : (o : Option ℕ) → Adds old.accounts new.accounts (one_at o) → AddsAll old new (record nowhere { accounts = one_at o })
  in_accounts o a = record { events = adds_none old.events new.events g.events; receipts = adds_none old.receipts new.receipts g.receipts; accounts = a }

  in_receipts : Adds old.receipts new.receipts (one_at m.own) → AddsAll old new (record nowhere { receipts = one_at m.own })
  in_receipts a = record { events = adds_none old.events new.events g.events; receipts = a; accounts = adds_none old.accounts new.accounts g.accounts }

  adds_put : (r : EntryAimed) → KeepsPut stops m old new r → Adds old.accounts new.accounts (one_at m.own)
  adds_put (Err r) keeps = adds_read m old.accounts new.accounts g.accounts keeps.own_is
  adds_put (Ok w) keeps = adds_mark _ _ _ _ _ m old.accounts new.accounts m.own refl g.accounts keeps

  adds_receipt : (r : ReceiptAimed) → KeepsReceipt stops m old new r → Adds old.receipts new.receipts (one_at m.own)
  adds_receipt (Err r) keeps = adds_read m old.receipts new.receipts g.receipts keeps.own_is
  adds_receipt (Ok w) keeps = adds_mark _ _ _ _ _ m old.receipts new.receipts m.own refl g.receipts keeps

  adds_marker : (n : Note) (o : Option ℕ) → m.own ≡ o → KeepsMarker stops m old new n o → Adds old.accounts new.accounts (one_at o)
  adds_marker n None is keeps = adds_none old.accounts new.accounts g.accounts
  adds_marker n (Some at) is keeps = adds_mark _ _ _ _ _ (record m { unstored = None }) old.accounts new.accounts (Some at) is g.accounts keeps.0

  adds_both : (n : Note) (o : Option (ℕ × ℕ)) → KeepsBoth stops m old new n o → AddsAll old new (places_noted m.own o)
  adds_both n None keeps = in_accounts m.own (adds_marker n m.own refl keeps)
  adds_both n (Some at) keeps = record {
    events = adds_none old.events new.events g.events;
    receipts = adds_mark _ _ _ _ _ m old.receipts new.receipts m.own refl g.receipts keeps.1;
    accounts = adds_mark _ _ _ _ _ (record m { lane = Some (n.writer, at.0); own = Some at.1; unstored = None; told = m.marker_told }) old.accounts new.accounts (Some at.1) refl g.accounts keeps.0;
  }

  adds_note : (r : NoteAimed) → KeepsNote stops m old new r → AddsAll old new (places_noted m.own m.marker)
  adds_note (Err r) keeps = subst (λ o. AddsAll old new (places_noted m.own o)) (sym keeps.1) (in_accounts m.own (adds_read m old.accounts new.accounts g.accounts keeps.0.own_is))
  adds_note (Ok n) keeps = adds_both n m.marker keeps

  -- an answer of this mark
  pub adds_for : (act : Act) → KeepsWrites stops act m old new → AddsAll old new (places_for act m)
  adds_for (Reads reads) keeps = adds_nothing old new g
  adds_for (Sends (Err r)) keeps = adds_nothing old new g
  adds_for (Sends (Ok w)) keeps = in_events (adds_mark _ _ _ _ _ m old.events new.events m.own refl g.events keeps)
  adds_for (Files k user filter) keeps = in_accounts m.own (adds_mark _ _ _ _ _ m old.accounts new.accounts m.own refl g.accounts keeps)
  adds_for (Puts aims) keeps = in_accounts m.own (adds_put _ keeps)
  adds_for (Marks aims) keeps = in_receipts (adds_receipt _ keeps)
  adds_for (Notes aims) keeps = adds_note _ keeps

-- ---- what was made

-- so many stores were made, or fewer, and no pass was split off
pub record Counts (old new : Counted) (ps : List ℕ) : Type 0 where
  pub passes : new.passes ≡ old.passes
  pub most : new.stores ≤ old.stores + length ps

counts_none : (n : Counted) → Counts n n []
counts_none n = record { passes = refl; most = omega arith }

counts_after : (n : Counted) (o : Option ℕ) (why : Option Unstored) → Counts n (made_after n o why) (one_at o)
counts_after n None why = record { passes = refl; most = omega arith }
counts_after n (Some at) why = record { passes = refl; most = omega arith }

counts_on : (a b c : Counted) (p q : List ℕ) → Counts a b p → Counts b c q → Counts a c (p ++ q)
counts_on a b c p q f g = record { passes = g.passes ∙ f.passes; most = omega (arith, f.most, g.most, length-append p q) }

pub record CountsAll (old new : Made) (ps : Places) : Type 0 where
  pub events : Counts old.events new.events ps.events
  pub receipts : Counts old.receipts new.receipts ps.receipts
  pub accounts : Counts old.accounts new.accounts ps.accounts

pub counts_nothing : (made : Made) → CountsAll made made nowhere
counts_nothing made = record { events = counts_none made.events; receipts = counts_none made.receipts; accounts = counts_none made.accounts }

pub counts_then : (a b c : Made) (p q : Places) → CountsAll a b p → CountsAll b c q → CountsAll a c (followed_by p q)
counts_then a b c p q f g = record {
  events = counts_on a.events b.events c.events p.events q.events f.events g.events;
  receipts = counts_on a.receipts b.receipts c.receipts p.receipts q.receipts f.receipts g.receipts;
  accounts = counts_on a.accounts b.accounts c.accounts p.accounts q.accounts f.accounts g.accounts;
}

module _ (m : Mark) (made : Made) where
  counts_marker : (o : Option ℕ) → CountsAll made (made_marker m made o) (record nowhere { accounts = one_at o })
  counts_marker None = record { events = counts_none made.events; receipts = counts_none made.receipts; accounts = counts_after made.accounts None m.unstored }
  counts_marker (Some at) = record { events = counts_none made.events; receipts = counts_after made.receipts None m.unstored; accounts = counts_after made.accounts (Some at) None }

  counts_noted : (o : Option (ℕ × ℕ)) → CountsAll made (made_noted m made o) (places_noted m.own o)
  counts_noted None = counts_marker m.own
  counts_noted (Some at) = record { events = counts_none made.events; receipts = counts_after made.receipts m.own m.unstored; accounts = counts_after made.accounts (Some at.1) None }

  pub counts_for : (act : Act) → CountsAll made (made_for act m made) (places_for act m)
  counts_for (Reads reads) = counts_nothing made
  counts_for (Sends (Err r)) = counts_nothing made
  counts_for (Sends (Ok w)) = record { events = counts_after made.events m.own m.unstored; receipts = counts_none made.receipts; accounts = counts_none made.accounts }
  counts_for (Files k user filter) = record { events = counts_none made.events; receipts = counts_none made.receipts; accounts = counts_after made.accounts m.own m.unstored }
  counts_for (Puts aims) = record { events = counts_none made.events; receipts = counts_none made.receipts; accounts = counts_after made.accounts m.own m.unstored }
  counts_for (Marks aims) = record { events = counts_none made.events; receipts = counts_after made.receipts m.own m.unstored; accounts = counts_none made.accounts }
  counts_for (Notes aims) = counts_noted m.marker

-- ---- both

just_these : {I : Type 0} (n m : Counted) (old new : List (Stored I)) (ps : List ℕ) → Adds old new ps → Counts n m ps → (n.passes ≡ 0 → n.stores ≡ length old) → (m.passes ≡ 0 → m.stores ≡ length new) → n.passes ≡ 0
    → firsts new ≡ firsts old ++ ps
just_these n m old new ps a c before after none = a.just (omega (arith, a.least, c.most, before none, after (c.passes ∙ none)))

-- what was seen at first, and then the stores that the marks tell
pub all_told : (n m : Made) (old new : Histories) (ps : Places) → AddsAll old new ps → CountsAll n m ps → HasAll n old → HasAll m new → IsAlone n → firsts_of new ≡ followed_by (firsts_of old) ps
all_told n m old new ps a c before after alone = λ i. record {
  events = just_these n.events m.events old.events new.events ps.events a.events c.events before.events after.events alone.events i;
  receipts = just_these n.receipts m.receipts old.receipts new.receipts ps.receipts a.receipts c.receipts before.receipts after.receipts alone.receipts i;
  accounts = just_these n.accounts m.accounts old.accounts new.accounts ps.accounts a.accounts c.accounts before.accounts after.accounts alone.accounts i;
}

-- a pass
pub has_all : (p : EnginePass) → HasAll (made_of p) (stores_of p)
has_all p = record { events = p.events.all; receipts = p.receipts.all; accounts = p.accounts.all }
