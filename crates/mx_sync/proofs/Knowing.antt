-- Tallies, and the push rules that were read last, stand for a snapshot that went on.
use Rattle.std.proofs.Common.{◌≡◌, ℕ, zero, suc, ◌≤◌, true, false, Result, Ok, Err, is_err, OnOk, nat_le, ◌&&◌, List, [], ◌∷◌, ◌++◌, length, take, refl, ap, sym, subst, ◌∙◌, arith, le-leb, leb-true}
use Rattle.std.proofs.lemmas.Bool.{and_from, and_parts}
use Rattle.std.proofs.lemmas.List.{length-append}
use Rattle.mx_ids.specs.declared.sync_token.SyncToken.{SyncToken}
use Rattle.mx_account.specs.Values as values
use Rattle.mx_account.specs.declared.entry.Entry.{Entry}
use Rattle.mx_core.specs.History.{Begins}
use Rattle.mx_core.proofs.Histories.{begins_self}
use Rattle.mx_event.specs.Shown.{position_of}
use Rattle.mx_event.specs.declared.event.Event.{Event}
use Rattle.mx_receipt.specs.Receipts as receipt
use Rattle.mx_receipt.specs.declared.receipt.Receipt.{Receipt}
use Rattle.mx_window.specs.Windows.{stand_from}
use Rattle.mx_snapshot.specs.declared.snapshot.Snapshot.{Snapshot}
use Rattle.mx_view.specs.Tokens.{is_before}
use Rattle.mx_rest.specs.Unread.Kept.{IsPlaced, IsSameUpTo, RulesLast, Stand, StandAll, StandsWithin, TalliesLast, fronts_in}
use Rattle.mx_rest.specs.Unread.Tallies.{Tallies}
use Rattle.mx_rest.specs.Unread.Tally.{Tally}

-- the first items of a list are those of a longer one
first_same : {A : Type 0} (n : ℕ) (xs more : List A) → n ≤ length xs → take n xs ≡ take n (xs ++ more)
first_same zero xs more h = refl
first_same (suc n) [] more h = absurd (omega (arith, h))
first_same (suc n) (x ∷ xs) more h = ap (λ l. x ∷ l) (first_same n xs more (omega (arith, h)))

taken_same : {A : Type 0} (n : ℕ) (xs ys : List A) → Begins xs ys → n ≤ length xs → take n xs ≡ take n ys
taken_same n xs ys begins h = first_same n xs begins.0 h ∙ ap (take n) (sym begins.1)

longer : {A : Type 0} (xs ys : List A) → Begins xs ys → length xs ≤ length ys
longer xs ys begins = omega (arith, ap length begins.1, length-append xs begins.0)

module _ (a b : Snapshot) (placed_a : IsPlaced a) (placed_b : IsPlaced b) (events : Begins a.events b.events) (receipts : Begins a.receipts b.receipts) (accounts : Begins a.accounts b.accounts) where
  one_last : TalliesLast → (t : Tally) → StandsWithin a t → StandsWithin b t
  one_last last t stands =
      let one = and_parts (nat_le t.at.e (length a.events)) (nat_le t.at.r (length a.receipts) && (nat_le t.at.a (length a.accounts) && nat_le t.at.d 0)) stands.within in
      let two = and_parts (nat_le t.at.r (length a.receipts)) (nat_le t.at.a (length a.accounts) && nat_le t.at.d 0) one.1 in
      let three = and_parts (nat_le t.at.a (length a.accounts)) (nat_le t.at.d 0) two.1 in
      let e : t.at.e ≤ length a.events = leb-true t.at.e (length a.events) one.0 in
      let r : t.at.r ≤ length a.receipts = leb-true t.at.r (length a.receipts) two.0 in
      let d : t.at.a ≤ length a.accounts = leb-true t.at.a (length a.accounts) three.0 in
      record {
        stands =
            last t a b placed_a placed_b
            (record { events = taken_same t.at.e a.events b.events events e; receipts = taken_same t.at.r a.receipts b.receipts receipts r; accounts = taken_same t.at.a a.accounts b.accounts accounts d }) stands.stands;
        within =
            and_from (nat_le t.at.e (length b.events)) (nat_le t.at.r (length b.receipts) && (nat_le t.at.a (length b.accounts) && nat_le t.at.d 0)) (le-leb t.at.e (length b.events) (omega (arith, e, longer a.events b.events events)))
            (and_from (nat_le t.at.r (length b.receipts)) (nat_le t.at.a (length b.accounts) && nat_le t.at.d 0) (le-leb t.at.r (length b.receipts) (omega (arith, r, longer a.receipts b.receipts receipts)))
            (and_from (nat_le t.at.a (length b.accounts)) (nat_le t.at.d 0) (le-leb t.at.a (length b.accounts) (omega (arith, d, longer a.accounts b.accounts accounts))) three.1));
      }

  all_last : TalliesLast → (ts : List Tally) → StandAll a ts → StandAll b ts
  all_last last [] all = tt
  all_last last (t ∷ ts) all = (one_last last t all.0, all_last last ts all.1)

  pub stand_last : TalliesLast → RulesLast → (t : Tallies) → Stand a t → Stand b t
  stand_last last rules t stand = record {
    all_stand = all_last last t.list stand.all_stand;
    are_read = rules t.rules a.accounts b.accounts placed_a.accounts placed_b.accounts accounts stand.are_read;
  }

-- after the events of a snapshot went on, or its receipts, or its account data
pub events_last : {A E : Type 0} → TalliesLast → RulesLast → (a : Snapshot) (es new : List Event) (r : Result A E) → IsPlaced a → stand_from position_of 1 es ≡ true → Begins a.events es
    → OnOk r (new ≡ es) → is_err r ≡ false → (t : Tallies) → Stand a t → Stand (record { events = new; receipts = a.receipts; accounts = a.accounts }) t
events_last last rules a es new (Ok x) placed placed_es begins is ok t stand =
    stand_last a (record { events = new; receipts = a.receipts; accounts = a.accounts }) placed
    (record { events = subst (λ (l : List Event). stand_from position_of 1 l ≡ true) (sym is) placed_es; receipts = placed.receipts; accounts = placed.accounts })
    (subst (Begins a.events) (sym is) begins) (begins_self a.receipts) (begins_self a.accounts) last rules t stand
events_last last rules a es new (Err x) placed placed_es begins is ok t stand = absurd cc

pub receipts_last : {A E : Type 0} → TalliesLast → RulesLast → (a : Snapshot) (rs new : List Receipt) (r : Result A E) → IsPlaced a → receipt.AreInPlace rs → Begins a.receipts rs
    → OnOk r (new ≡ rs) → is_err r ≡ false → (t : Tallies) → Stand a t → Stand (record { events = a.events; receipts = new; accounts = a.accounts }) t
receipts_last last rules a rs new (Ok x) placed placed_rs begins is ok t stand =
    stand_last a (record { events = a.events; receipts = new; accounts = a.accounts }) placed
    (record { events = placed.events; receipts = subst receipt.AreInPlace (sym is) placed_rs; accounts = placed.accounts })
    (begins_self a.events) (subst (Begins a.receipts) (sym is) begins) (begins_self a.accounts) last rules t stand
receipts_last last rules a rs new (Err x) placed placed_rs begins is ok t stand = absurd cc

pub accounts_last : {A E : Type 0} → TalliesLast → RulesLast → (a : Snapshot) (ents new : List Entry) (r : Result A E) → IsPlaced a → values.AreInPlace ents → Begins a.accounts ents
    → OnOk r (new ≡ ents) → is_err r ≡ false → (t : Tallies) → Stand a t → Stand (record { events = a.events; receipts = a.receipts; accounts = new }) t
accounts_last last rules a ents new (Ok x) placed placed_ents begins is ok t stand =
    stand_last a (record { events = a.events; receipts = a.receipts; accounts = new }) placed
    (record { events = placed.events; receipts = placed.receipts; accounts = subst values.AreInPlace (sym is) placed_ents })
    (begins_self a.events) (begins_self a.receipts) (subst (Begins a.accounts) (sym is) begins) last rules t stand
accounts_last last rules a ents new (Err x) placed placed_ents begins is ok t stand = absurd cc
