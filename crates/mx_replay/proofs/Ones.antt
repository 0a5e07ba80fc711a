-- A write after which one store more was seen.
use Rattle.std.proofs.Common.{◌≡◌, Bool, true, false, nat_eq, if◌then◌else◌, ℕ, ◌+◌, ◌<◌, List, [], ◌∷◌, ◌++◌, length, Ok, refl, sym, ap, ◌∙◌, subst, arith, inl, inr, length-append, append_assoc}
use Rattle.std.proofs.lemmas.Bool.{cases_eq, eq-eqb, ne_eqb}
use Rattle.std.proofs.lemmas.List.{append_cancel_left, append-nil}
use Rattle.mx_core.specs.declared.history.Stored.{Stored}
use Rattle.mx_core.specs.History.{own, Begins}
use Rattle.mx_core.proofs.Owns.{own-append}
use Rattle.mx_front.specs.declared.view.View.{View}
use Rattle.mx_writers.specs.declared.answers.Written.{Written}
use Rattle.mx_writers.specs.Decision.{Decision, Placing, Stores, Keeps, Refuses, store_of}
use Rattle.mx_writers.specs.Writes.{WritesBy, WritesSeen, stores_by}
use Rattle.mx_replay.specs.Replays.{HasReplayed, stores_else}
use Rattle.mx_replay.specs.declared.replaying.NotReplayed.{NotReplayed}

-- ---- lists of one store

-- a list of one item
record IsOne {A : Type 0} (xs : List A) : Type 0 where
  pub item : A
  pub is : xs ≡ item ∷ []

one_of : {A : Type 0} (xs : List A) → length xs ≡ 1 → IsOne xs
one_of [] e = absurd (omega (arith, e))
one_of (x ∷ []) e = record { item = x; is = refl }
one_of (x ∷ y ∷ xs) e = absurd (omega (arith, e))

empty_of : {A : Type 0} (xs : List A) → length xs ≡ 0 → xs ≡ []
empty_of [] e = refl
empty_of (x ∷ xs) e = absurd (omega (arith, e))

-- of one store of a writer nothing but itself is the writer's
record Single {I : Type 0} (more : List (Stored I)) (x s : Stored I) : Type 0 where
  pub none_more : more ≡ []
  pub same : x ≡ s

abbrev first_or : {A : Type 0} → A → List A → A
first_or d [] = d
first_or d (x ∷ xs) = x

single_in : {I : Type 0} (more : List (Stored I)) (x s : Stored I) → x ∷ [] ≡ more ++ s ∷ [] → Single more x s
single_in [] x s e = record { none_more = refl; same = ap (first_or x) e }
single_in (m ∷ more) x s e =
    let count : 1 ≡ length (m ∷ more) + 1 = ap length e ∙ length-append (m ∷ more) (s ∷ []) in
    absurd (omega (arith, count))

none_in : {I : Type 0} (more : List (Stored I)) (x s : Stored I) → [] ≡ more ++ s ∷ [] → Single more x s
none_in more x s e =
    let count : 0 ≡ length more + 1 = ap length e ∙ length-append more (s ∷ []) in
    absurd (omega (arith, count))

single : {I : Type 0} (k : ℕ) (more : List (Stored I)) (x s : Stored I) (b : Bool) → (if b then x ∷ [] else []) ≡ more ++ s ∷ [] → Single more x s
single k more x s true e = single_in more x s e
single k more x s false e = none_in more x s e

-- ---- a write that was taken, after which one store more was seen

replayed_by : {I D E : Type 0} (place : Placing I) (decides : ℕ → List (Stored I) → D → Decision I E) (k stop first : ℕ) (draft : D) (w : Written) (old new pen : View I) (mine : List (Stored I)) (d : Decision I E)
    → decides k mine draft ≡ d → WritesBy place d k stop mine (Ok w) pen → Begins (own old.seen k) mine → own new.seen k ≡ pen.own → Begins old.seen new.seen
    → 0 < w.count → w.first ≡ first → length new.seen ≡ length old.seen + 1 → HasReplayed place decides k first draft old.seen new.seen
replayed_by place decides k stop first draft w old new pen mine (Stores xs) is wrote before after seen some there count =
    let rest_one : length seen.0 ≡ 1 = omega (arith, count, ap length seen.1, length-append old.seen seen.0) in
    let one = one_of seen.0 rest_one in
    let x = one.item in
    let s = store_of place k w.first xs in
    let more = before.0 in
    let left : own new.seen k ≡ own old.seen k ++ own (x ∷ []) k =
    ap (λ l. own l k) (seen.1 ∙ ap (λ l. old.seen ++ l) one.is) ∙ own-append old.seen (x ∷ []) k in
    let right : own new.seen k ≡ own old.seen k ++ (more ++ s ∷ []) =
    after ∙ (wrote.own_is ∙ (ap (λ l. l ++ s ∷ []) before.1 ∙ append_assoc (own old.seen k) more (s ∷ []))) in
    let only = single k more x s (nat_eq x.writer k) (append_cancel_left (own old.seen k) (own (x ∷ []) k) (more ++ s ∷ []) (sym left ∙ right)) in
    let mine_is : mine ≡ own old.seen k = before.1 ∙ (ap (λ l. own old.seen k ++ l) only.none_more ∙ append-nil (own old.seen k)) in
    record {
      items = xs;
      decided = subst (λ l. decides k l draft ≡ Stores xs) mine_is is;
      seen = seen.1 ∙ (ap (λ l. old.seen ++ l) one.is ∙ (ap (λ y. old.seen ++ y ∷ []) only.same ∙ ap (λ n. old.seen ++ store_of place k n xs ∷ []) there));
    }
replayed_by place decides k stop first draft w old new pen mine (Keeps n) is wrote before after seen some there count = absurd (omega (arith, some, wrote.count))
replayed_by place decides k stop first draft w old new pen mine (Refuses e) is wrote before after seen some there count = absurd wrote

pub replayed : {I D E : Type 0} (place : Placing I) (decides : ℕ → List (Stored I) → D → Decision I E) (k stop first : ℕ) (draft : D) (w : Written) (old new : View I)
    → WritesSeen place decides k stop draft (Ok w) old new → 0 < w.count → w.first ≡ first → length new.seen ≡ length old.seen + 1
    → HasReplayed place decides k first draft old.seen new.seen
replayed place decides k stop first draft w old new wrote some there count =
    replayed_by place decides k stop first draft w old new wrote.pen wrote.mine (decides k wrote.mine draft) refl wrote.wrote wrote.before wrote.after wrote.seen some there count

-- what a pass that alone may store has then seen
pub stores_told : (E : Type 0) (w : Written) (n old new : ℕ) → (w.count ≡ 0 → n ≡ 0) × (0 < w.count → n ≡ 1) → new ≡ old + stores_by {E = E} (Ok w) → new ≡ old + n
stores_told E w n old new told is = elim (cases_eq w.count 0) [
  | inl none ↦
      let by : stores_by {E = E} (Ok w) ≡ 0 = ap (λ b. let m : ℕ = if b then 0 else 1 in m) (eq-eqb w.count 0 none) in
      omega (arith, is, by, told.0 none)
  | inr some ↦
      let by : stores_by {E = E} (Ok w) ≡ 1 = ap (λ b. let m : ℕ = if b then 0 else 1 in m) (ne_eqb w.count 0 some) in
      omega (arith, is, by, told.1 (omega (arith, some)))
]

pub none_told : {E : Type 0} (r : NotReplayed E) (old new : ℕ) → stores_else r ≡ 0 → new ≡ old + 0 → new ≡ old + stores_else r
none_told r old new none is = omega (arith, is, none)
