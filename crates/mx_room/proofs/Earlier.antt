-- Which event was sent in a transaction, once a block is taken in.
use Rattle.std.proofs.Common.{◌≡◌, ℕ, ◌+◌, ◌==◌, ◌&&◌, Bool, true, false, cond, List, [], ◌∷◌, ◌++◌, Option, Some, None, Ordering, Less, Equal, Greater, is_eq, nat_cmp, refl, sym, ap, ap₂, ◌∙◌}
use Rattle.std.proofs.lemmas.Bool.{and_parts, eq-eqb, eqb-true}
use Rattle.std.proofs.lemmas.List.Folds.{find-append}
use Rattle.std.proofs.lemmas.Slice.Eq.{bytes_eq-Decides, slice_eq-Decides}
use Rattle.std.specs.Cmp.{unsigned_ties}
use Rattle.std.specs.Cmp.Lexicographic.{lists_ties, pointwise, slice_cmp, texts_ties}
use Rattle.std.specs.List.{AllByRecursion, find}
use Rattle.std.specs.Option.{option_map, option_or}
use Rattle.std.specs.Ordering.{eq_by_cmp, ordering_then}
use Rattle.std.specs.Str.{bytes_eq}
use Rattle.mx_core.specs.History.{placed_from}
use Rattle.mx_ids.specs.declared.event_id.EventId.{EventId}
use Rattle.mx_event.specs.Lawful.{placed_event}
use Rattle.mx_event.specs.declared.event.Event.{Event}
use Rattle.mx_event.specs.declared.event.Txn.{Txn}
use Rattle.mx_room.specs.declared.txn_key.TxnKey.{TxnKey}
use Rattle.mx_room.specs.Admitting.{is_in, same_txn, sent_in}
use Rattle.mx_room.specs.Creating.{IsNew}
use Rattle.mx_room.specs.Ranks.{id_rank}
use Rattle.mx_room.specs.Keys.{id_after, key_cmp, txn_of}

-- ---- the same transaction

is_eq_then : (a b : Ordering) → is_eq (ordering_then a b) ≡ (is_eq a && is_eq b)
is_eq_then Less b = refl
is_eq_then Equal b = refl
is_eq_then Greater b = refl

-- the same transactions are equal
pub same_is : (s t : Txn) → same_txn s t ≡ true → s ≡ t
same_is s t h =
    let device = and_parts (s.device == t.device) (bytes_eq s.id t.id && pointwise bytes_eq s.path t.path) h in
    let rest = and_parts (bytes_eq s.id t.id) (pointwise bytes_eq s.path t.path) device.1 in
    let same_device : s.device ≡ t.device = eqb-true s.device t.device device.0 in
    let same_id : s.id ≡ t.id = (bytes_eq-Decides s.id t.id).0 rest.0 in
    let same_path : s.path ≡ t.path = (slice_eq-Decides bytes_eq-Decides s.path t.path _ refl).0 rest.1 in
    λ i. record { device = same_device i; id = same_id i; path = same_path i }

and_false : (a : Bool) → (a && false) ≡ false
and_false true = refl
and_false false = refl

-- the order on keys finds two of them equal where they have the same transaction
pub same_key : (k l : TxnKey) → eq_by_cmp key_cmp k l ≡ same_txn k.txn l.txn
same_key k l =
    is_eq_then (nat_cmp k.rank l.rank) (by_parts k.txn l.txn) ∙ ap (λ b. is_eq (nat_cmp k.rank l.rank) && b) (parts_same k.txn l.txn) ∙ ranked (same_txn k.txn l.txn) refl
  where
    by_parts : Txn → Txn → Ordering
    by_parts s t = ordering_then (nat_cmp s.device t.device) (ordering_then (slice_cmp nat_cmp s.id t.id) (slice_cmp (slice_cmp nat_cmp) s.path t.path))

    parts_same : (s t : Txn) → is_eq (by_parts s t) ≡ same_txn s t
    parts_same s t =
        is_eq_then (nat_cmp s.device t.device) (ordering_then (slice_cmp nat_cmp s.id t.id) (slice_cmp (slice_cmp nat_cmp) s.path t.path))
        ∙ ap₂ (λ a b. a && b) (sym (unsigned_ties s.device t.device))
        (is_eq_then (slice_cmp nat_cmp s.id t.id) (slice_cmp (slice_cmp nat_cmp) s.path t.path)
        ∙ ap₂ (λ a b. a && b) (sym (texts_ties s.id t.id)) (sym (lists_ties (slice_cmp nat_cmp) texts_ties s.path t.path)))

    ranked : (same : Bool) → same_txn k.txn l.txn ≡ same → (is_eq (nat_cmp k.rank l.rank) && same) ≡ same
    ranked true h =
        let one : k.rank ≡ l.rank = k.ranked ∙ ap (λ (t : Txn). id_rank t.id) (same_is k.txn l.txn h) ∙ sym l.ranked in
        ap (λ b. b && true) (sym (unsigned_ties k.rank l.rank) ∙ eq-eqb k.rank l.rank one)
    ranked false h = and_false (is_eq (nat_cmp k.rank l.rank))

-- ---- the event that was sent

or_none : {A : Type 0} (o : Option A) → option_or o None ≡ o
or_none None = refl
or_none (Some x) = refl

module _ (txn : Txn) where
  -- events without a transaction weren't sent in one
  none_new : (writer first at : ℕ) (es : List Event) → AllByRecursion (IsNew writer) es → find (λ (e : Event). is_in txn e.txn) (placed_from placed_event first at es) ≡ None
  none_new writer first at [] h = refl
  none_new writer first at (e ∷ es) h =
      ap (λ t. cond (is_in txn t) (Some (placed_event e first at)) (find (λ (v : Event). is_in txn v.txn) (placed_from placed_event first (at + 1) es))) h.0.1
      ∙ none_new writer first (at + 1) es h.1

  pub sent_new : (writer first at : ℕ) (before es : List Event) → AllByRecursion (IsNew writer) es → sent_in (Some txn) (before ++ placed_from placed_event first at es) ≡ sent_in (Some txn) before
  sent_new writer first at before es h =
      ap (option_map (λ (e : Event). e.id))
      (find-append (λ (e : Event). is_in txn e.txn) before (placed_from placed_event first at es)
      ∙ ap (λ o. option_or (find (λ (e : Event). is_in txn e.txn) before) o) (none_new writer first at es h) ∙ or_none _)

-- a placed event more, which is the first in its transaction
module _ (k : TxnKey) (first : ℕ) (before : List Event) (e : Event) where
  abbrev found : Option Event
  found = find (λ (v : Event). is_in k.txn v.txn) before

  abbrev now : Event
  now = placed_event e first first

  abbrev id : EventId
  id = record { at = first }

  one_more : sent_in (Some k.txn) (before ++ now ∷ []) ≡ option_map (λ (v : Event). v.id) (option_or found (cond (is_in k.txn e.txn) (Some now) None))
  one_more = ap (option_map (λ (v : Event). v.id)) (find-append (λ (v : Event). is_in k.txn v.txn) before (now ∷ []))

  taken : (o : Option Event) → option_map (λ (v : Event). v.id) o ≡ None → option_map (λ (v : Event). v.id) (option_or o (Some now)) ≡ Some id
  taken None h = refl
  taken (Some v) h = absurd cc

  by_key : (key : TxnKey) → sent_in (Some key.txn) before ≡ None → (b : Bool) → b ≡ same_txn key.txn k.txn
      → cond b (Some id) (sent_in (Some k.txn) before) ≡ option_map (λ (v : Event). v.id) (option_or found (cond b (Some now) None))
  by_key key none true same = sym (taken found (ap (λ t. sent_in (Some t) before) (sym (same_is key.txn k.txn (sym same))) ∙ none))
  by_key key none false same = ap (option_map (λ (v : Event). v.id)) (sym (or_none found))

  pub sent_more : (key : Option TxnKey) → txn_of key ≡ e.txn → sent_in (txn_of key) before ≡ None → id_after key id k (sent_in (Some k.txn) before) ≡ sent_in (Some k.txn) (before ++ now ∷ [])
  sent_more None named none =
      ap (option_map (λ (v : Event). v.id)) (sym (or_none found))
      ∙ ap (λ t. option_map (λ (v : Event). v.id) (option_or found (cond (is_in k.txn t) (Some now) None))) named ∙ sym one_more
  sent_more (Some key) named none =
      ap (λ b. cond b (Some id) (sent_in (Some k.txn) before)) (same_key key k) ∙ by_key key none (same_txn key.txn k.txn) refl
      ∙ ap (λ t. option_map (λ (v : Event). v.id) (option_or found (cond (is_in k.txn t) (Some now) None))) named ∙ sym one_more
