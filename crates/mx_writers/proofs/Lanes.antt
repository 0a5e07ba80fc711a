-- The stores of one writer.
use Rattle.std.proofs.Common.{◌≡◌, ℕ, true, List, [], ◌∷◌, ◌++◌, Option, Result, Ok, refl, sym, ap, ◌∙◌, subst, ap₂, inl, inr}
use Rattle.std.proofs.lemmas.Bool.{cases_eq, and_parts, and_from, ne_eqb, eq-eqb}
use Rattle.mx_core.specs.declared.history.Stored.{Stored}
use Rattle.mx_core.specs.History.{own, Law, IsLane, keeps_law}
use Rattle.mx_core.proofs.Owns.{own-here, own-else}
use Rattle.mx_core.specs.declared.placed.Prepared.{Prepared}
use Rattle.mx_writers.specs.declared.folds.Made.{Made}
use Rattle.mx_writers.specs.declared.folds.Made.TheVariants as made
use Rattle.mx_writers.specs.declared.folds.Unmade.{Unmade}
use Rattle.mx_writers.specs.Decision.{Decision, Stores, Keeps, Refuses, Prepares, Placing, CanBeStored, AreLawful}

module _ {I : Type 0} where
  own_twice : (h : List (Stored I)) (k : ℕ) → own (own h k) k ≡ own h k
  own_twice [] k = refl
  own_twice (s ∷ h) k = elim (cases_eq s.writer k) [
    | inl is ↦ rw (eq-eqb s.writer k is, eq-eqb s.writer k is) (ap (λ l. s ∷ l) (own_twice h k))
    | inr not ↦ rw (ne_eqb s.writer k not) (own_twice h k)
  ]

  own_more : (h : List (Stored I)) (x : Stored I) (k : ℕ) → x.writer ≡ k → own (h ++ x ∷ []) k ≡ own h k ++ x ∷ []
  own_more h x k is = subst (λ j. own (h ++ x ∷ []) j ≡ own h j ++ x ∷ []) is (own-here h x)

  -- the stores of one writer are lawful after one another
  own_lawful : (law : Law I) (before h : List (Stored I)) (k : ℕ) → keeps_law law before h ≡ true → keeps_law law (own before k) (own h k) ≡ true
  own_lawful law before [] k e = refl
  own_lawful law before (s ∷ h) k e =
      let both = and_parts (law s.writer (own before s.writer) s.first s.items) (keeps_law law (before ++ s ∷ []) h) e in
      let rest = own_lawful law (before ++ s ∷ []) h k both.1 in
      elim (cases_eq s.writer k) [
        | inl is ↦
            let same = ap (own (own before k)) is ∙ own_twice before k ∙ ap (own before) (sym is) in
            rw (eq-eqb s.writer k is)
            (and_from (law s.writer (own (own before k) s.writer) s.first s.items) (keeps_law law (own before k ++ s ∷ []) (own h k))
            (ap (λ l. law s.writer l s.first s.items) same ∙ both.0) (subst (λ l. keeps_law law l (own h k) ≡ true) (own_more before s k is) rest))
        | inr not ↦ rw (ne_eqb s.writer k not) (subst (λ l. keeps_law law l (own h k) ≡ true) (own-else before s k not) rest)
      ]

  pub lane : (law : Law I) (h mine : List (Stored I)) (j k : ℕ) → j ≡ k → own h j ≡ mine → keeps_law law [] h ≡ true → IsLane law k mine
  lane law h mine j k same is lawful = subst (IsLane law k) (ap (own h) (sym same) ∙ is) (record { writer = own_twice h k; lawful = own_lawful law [] h k lawful })

-- items that were prepared are decided, and so can be stored
decided_items : {I E : Type 0} (d : Decision I E) (p : Prepared I) (pending : Option (List I)) → Prepares d (Ok (made.Items p)) pending → d ≡ Stores p.items
decided_items (Stores xs) p pending e = ap Stores (sym e.0)
decided_items (Keeps n) p pending e = absurd e
decided_items (Refuses f) p pending e = absurd e

pub storable : {I D E : Type 0} (law : Law I) (place : Placing I) (decides : ℕ → List (Stored I) → D → Decision I E) (k w : ℕ) (mine folded : List (Stored I)) (draft : D)
    (answer : Result (Made I) (Unmade E)) (p : Prepared I) (pending : Option (List I))
    → AreLawful law place decides → IsLane law k mine → w ≡ k → folded ≡ mine → Prepares (decides w folded draft) answer pending → answer ≡ Ok (made.Items p) → CanBeStored law place k mine p.items
storable law place decides k w mine folded draft answer p pending are lane writer fold e is =
    let decided = decided_items (decides w folded draft) p pending (subst (λ a. Prepares (decides w folded draft) a pending) is e) in
    are k mine draft p.items lane (ap₂ (λ j l. decides j l draft) (sym writer) (sym fold) ∙ decided)
