-- Lists of items in their places: one item more, a book with one store more, its items up to a front, and a snapshot of them.
use Rattle.std.proofs.Common.{◌≡◌, ℕ, zero, suc, ◌+◌, ◌-◌, ◌<◌, ◌≤◌, true, false, List, [], ◌∷◌, ◌++◌, take, drop, length, nat_eq, Result, Ok, Err, refl, sym, ap, ◌∙◌, subst, inl, inr, arith}
use Rattle.std.specs.Result.{OnOk}
use Rattle.std.proofs.Math.Seq.{take-append-add}
use Rattle.std.proofs.lemmas.Bool.{and_from, and_parts, cases_Bool, cases_lt, eq-eqb}
use Rattle.std.proofs.lemmas.List.{length-take-le, take-append-drop}
use Rattle.mx_window.specs.Windows.{stand_from}
use Rattle.mx_window.proofs.Intervals.{stand_from-push}
use Rattle.mx_core.specs.declared.history.Stored.{Stored}
use Rattle.mx_core.specs.Covered.{covered}
use Rattle.mx_core.specs.Front.{AllStored, IsFront}
use Rattle.mx_core.specs.History.{Begins, is_stored, item_at, keeps_law}
use Rattle.mx_core.proofs.Covering.{covered_get, covers_to_front, same_items}
use Rattle.mx_core.proofs.Histories.{same_front}
use Rattle.mx_core.proofs.InPlace.{covered_in_place}
use Rattle.mx_core.proofs.Owns.{keeps_law_more}
use Rattle.mx_lanes.specs.Parts.{IsUpTo, Taken}
use Rattle.mx_lanes.proofs.Orders.{slice_get-take}
use Rattle.mx_event.specs.Shown.{position_of}
use Rattle.mx_event.specs.declared.event.Event.{Event}
use Rattle.mx_snapshot.specs.declared.snapshot.Snapshot.{Snapshot}
use Rattle.bench_reads.specs.InPlace.{Knows, in_place}

-- one item more stands at its own position
pub one_more : {E : Type 0} (at : E → ℕ) (old made : List E) (x : E) (n : ℕ) → stand_from at 1 old ≡ true → n ≡ length old → at x ≡ n + 1 → made ≡ old ++ x ∷ []
    → stand_from at 1 made ≡ true
one_more at old made x n stands many here pushed =
    let next : at x ≡ 1 + length old = omega (arith, here, many) in
    ap (stand_from at 1) pushed ∙ stand_from-push at 1 old x stands next

-- where the position after the front is stored, all is stored up to it
all_to : {I : Type 0} (h : List (Stored I)) (f p : ℕ) → AllStored h f → p ≡ f + 1 → is_stored h p ≡ true → AllStored h p
all_to h f p stored next here q pos le = elim (cases_lt f q) [
  | inl above ↦ subst (λ n. is_stored h n ≡ true) (let e : p ≡ q = omega (arith, next, above, le) in e) here
  | inr below ↦ stored q pos below
]

-- nothing is stored at the position after the front
free : {I : Type 0} (h : List (Stored I)) (f p : ℕ) → IsFront h f → f + 1 ≤ p → p < f + 1 + 1 → is_stored h p ≡ false
free h f p is low high = elim (cases_Bool (is_stored h p)) [
  | inl here ↦ absurd (let le : p ≤ f = is.greatest p (all_to h f p is.stored (omega (arith, low, high)) here) in omega (arith, le, low))
  | inr not ↦ not
]

-- a list of one item that was made by one push
pub one_pushed : {A : Type 0} (made old : List A) (x : A) → old ≡ [] → made ≡ old ++ x ∷ [] → made ≡ x ∷ []
one_pushed made old x none pushed = pushed ∙ ap (λ l. l ++ x ∷ []) none

-- nothing is stored where one item is to stand after the front
pub apart : {I : Type 0} (h same : List (Stored I)) (f : ℕ) (items : List I) (x : I) → IsFront h f → same ≡ h → items ≡ x ∷ []
    → (p : ℕ) → f + 1 ≤ p → p < f + 1 + length items → is_stored same p ≡ false
apart h same f items x is kept one p low high =
    let many : length items ≡ 1 = ap length one in
    ap (λ l. is_stored l p) kept ∙ free h f p is low (omega (arith, high, many))

-- a store more of one event at its own position
pub placed_more : (h same new : List (Stored Event)) (lane first : ℕ) (items : List Event) (e : Event) → keeps_law in_place [] h ≡ true
    → same ≡ h → new ≡ same ++ record { writer = lane; first = first; items = items } ∷ [] → items ≡ e ∷ [] → position_of e ≡ first → keeps_law in_place [] new ≡ true
placed_more h same new lane first items e kept is made one here =
    let x : Stored Event = record { writer = lane; first = first; items = items } in
    let stands : stand_from position_of first items ≡ true = ap (stand_from position_of first) one ∙ and_from (nat_eq (position_of e) first) true (eq-eqb (position_of e) first here) refl in
    ap (keeps_law in_place []) (made ∙ ap (λ l. l ++ x ∷ []) is) ∙ keeps_law_more in_place h x kept stands

-- the items up to a position are the first of those that are covered
pub first_covered : {I : Type 0} (h : List (Stored I)) (f last : ℕ) (taken : Taken I) → IsFront h f → last ≤ f → IsUpTo h last taken → taken.items ≡ take last (covered h)
first_covered h f last taken is le parts =
    let front : f ≡ length (covered h) = same_front h f (length (covered h)) is (covers_to_front h) in
    let many : length (take last (covered h)) ≡ last = length-take-le last (covered h) (omega (arith, le, front)) in
    same_items taken.items (take last (covered h)) (parts.front ∙ sym many)
    (λ i less. parts.items (suc i) (omega arith) (omega (arith, less, parts.front)) ∙ ap (item_at h) (next i)
    ∙ sym (covered_get h i (omega (arith, less, parts.front, le, front)))
    ∙ sym (slice_get-take (covered h) last i (omega (arith, less, parts.front))))
  where
    next : (i : ℕ) → suc i ≡ 1 + i
    next i = omega arith

stand_from-take : {E : Type 0} (at : E → ℕ) (first n : ℕ) (es : List E) → stand_from at first es ≡ true → stand_from at first (take n es) ≡ true
stand_from-take at first zero es stands = refl
stand_from-take at first (suc n) [] stands = refl
stand_from-take at first (suc n) (e ∷ es) stands =
    let parts = and_parts (nat_eq (at e) first) (stand_from at (first + 1) es) stands in
    and_from (nat_eq (at e) first) (stand_from at (first + 1) (take n es)) parts.0 (stand_from-take at (first + 1) n es parts.1)

-- the first of them stand at their own positions
pub stand_first : (h : List (Stored Event)) (n : ℕ) (items : List Event) → keeps_law in_place [] h ≡ true → items ≡ take n (covered h) → stand_from position_of 1 items ≡ true
stand_first h n items kept is =
    ap (stand_from position_of 1) is ∙ stand_from-take position_of 1 n (covered h) (covered_in_place position_of in_place h (λ k mine first items is. is) kept)

-- what begins a list begins its items up to a later place
pub begins_take : {A : Type 0} (xs ys zs : List A) (n : ℕ) → Begins xs ys → length xs ≤ n → zs ≡ take n ys → Begins xs zs
begins_take xs ys zs n b le is =
    let more : length xs + (n - length xs) ≡ n = omega (arith, le) in
    (take (n - length xs) b.0, is ∙ ap (take n) b.1 ∙ ap (λ m. take m (xs ++ b.0)) (sym more) ∙ take-append-add xs b.0 (n - length xs))

-- the items up to a place begin the list
pub take_begins : {A : Type 0} (n : ℕ) (xs zs : List A) → zs ≡ take n xs → Begins zs xs
take_begins n xs zs is = (drop n xs, sym (take-append-drop n xs) ∙ ap (λ l. l ++ drop n xs) (sym is))

-- a snapshot that knows nothing
pub knows_none : (all : List Event) (s : Snapshot) → s.events ≡ [] → s.receipts ≡ [] → s.accounts ≡ [] → Knows all s
knows_none all s events receipts accounts = record { events = (all, sym (ap (λ l. l ++ all) events)); receipts = receipts; accounts = accounts }

-- a snapshot that went on to the items up to a place
pub knows_first : {E : Type 0} (r : Result (Unit {0}) E) (all same first : List Event) (n : ℕ) (s : Snapshot) → all ≡ same → first ≡ take n same → s.receipts ≡ [] → s.accounts ≡ []
    → OnOk r (s.events ≡ first) → OnOk r (Knows all s)
knows_first (Err e) all same first n s is begin receipts accounts on_events = tt
knows_first (Ok u) all same first n s is begin receipts accounts on_events =
    record { events = take_begins n all s.events (on_events ∙ begin ∙ ap (take n) (sym is)); receipts = receipts; accounts = accounts }
