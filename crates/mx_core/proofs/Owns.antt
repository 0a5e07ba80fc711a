-- The stores of one writer, and lawful stores, in a history that grows.
use Rattle.std.proofs.Common.{◌≡◌, ◌≢◌, ℕ, ◌<◌, ◌≤◌, true, ◌&&◌, List, [], ◌∷◌, ◌++◌, eqb, refl, sym, ap, ◌∙◌, subst, inl, inr, arith}
use Rattle.std.proofs.lemmas.Bool.{cases_Bool, and_parts, and_from, eq-eqb, ne_eqb}
use Rattle.std.proofs.lemmas.List.{append-nil, append_assoc}
use Rattle.std.proofs.Props.{props}
use Rattle.mx_core.specs.declared.history.Stored.{Stored}
use Rattle.mx_core.specs.History.{own, AreOf, Begins, Law, keeps_law}

pub own-append : {I : Type 0} (h more : List (Stored I)) (k : ℕ) → own (h ++ more) k ≡ own h k ++ own more k
own-append [] more k = refl
own-append (s ∷ h) more k = elim (cases_Bool (eqb s.writer k)) [
  | inl is ↦ rw is (ap (λ l. s ∷ l) (own-append h more k))
  | inr other ↦ rw other (own-append h more k)
]

-- one store more is one more of its writer, and none of another
pub own-here : {I : Type 0} (h : List (Stored I)) (x : Stored I) → own (h ++ x ∷ []) x.writer ≡ own h x.writer ++ x ∷ []
own-here h x = own-append h (x ∷ []) x.writer ∙ rw (eq-eqb x.writer x.writer refl) refl

pub own-else : {I : Type 0} (h : List (Stored I)) (x : Stored I) (k : ℕ) → x.writer ≢ k → own (h ++ x ∷ []) k ≡ own h k
own-else h x k other = own-append h (x ∷ []) k ∙ rw (ne_eqb x.writer k other) (append-nil (own h k))

-- a beginning of a history has a beginning of each writer's stores
pub begins_own : {I : Type 0} (h longer : List (Stored I)) (k : ℕ) → Begins h longer → Begins (own h k) (own longer k)
begins_own h longer k b = (own b.0 k, ap (λ l. own l k) b.1 ∙ own-append h b.0 k)

-- a list of lawful stores in two parts
pub keeps_law-append : {I : Type 0} (law : Law I) (before h more : List (Stored I)) → keeps_law law before (h ++ more) ≡ (keeps_law law before h && keeps_law law (before ++ h) more)
keeps_law-append law before [] more = ap (λ l. keeps_law law l more) (sym (append-nil before))
keeps_law-append law before (s ∷ h) more = elim (cases_Bool (law s.writer (own before s.writer) s.first s.items)) [
  | inl is ↦ rw is (keeps_law-append law (before ++ s ∷ []) h more ∙ ap (λ l. keeps_law law (before ++ s ∷ []) h && keeps_law law l more) (append_assoc before (s ∷ []) h))
  | inr not ↦ rw not refl
]

pub keeps_law_more : {I : Type 0} (law : Law I) (h : List (Stored I)) (x : Stored I) → keeps_law law [] h ≡ true → law x.writer (own h x.writer) x.first x.items ≡ true → keeps_law law [] (h ++ x ∷ []) ≡ true
keeps_law_more law h x kept is = keeps_law-append law [] h (x ∷ []) ∙ and_from (keeps_law law [] h) (keeps_law law h (x ∷ [])) kept (and_from (law x.writer (own h x.writer) x.first x.items) true is refl)

pub keeps_law_front : {I : Type 0} (law : Law I) (h longer : List (Stored I)) → Begins h longer → keeps_law law [] longer ≡ true → keeps_law law [] h ≡ true
keeps_law_front law h longer b kept = (and_parts (keeps_law law [] h) (keeps_law law h b.0) (sym (keeps_law-append law [] h b.0) ∙ ap (keeps_law law []) (sym b.1) ∙ kept)).0

-- ---- who stored

pub are_of_more : {I : Type 0} (n : ℕ) (h : List (Stored I)) (x : Stored I) → AreOf n h → x.writer < n → AreOf n (h ++ x ∷ [])
are_of_more n [] x of lt = (lt, tt)
are_of_more n (s ∷ h) x of lt = (of.0, are_of_more n h x of.1 lt)

are_of_first : {I : Type 0} (n m : ℕ) (h more : List (Stored I)) → n ≤ m → AreOf n (h ++ more) → AreOf m h
are_of_first n m [] more le of = tt
are_of_first n m (s ∷ h) more le of = let lt : s.writer < n = of.0 in (omega (arith, lt, le), are_of_first n m h more le of.1)

pub are_of_front : {I : Type 0} (n m : ℕ) (h longer : List (Stored I)) → n ≤ m → Begins h longer → AreOf n longer → AreOf m h
are_of_front n m h longer le b of = are_of_first n m h b.0 le (subst (AreOf n) b.1 of)

pub AreOf-prop : {I : Type 0} (n : ℕ) (h : List (Stored I)) → IsProp (AreOf n h)
AreOf-prop n [] x y = refl
AreOf-prop n (s ∷ h) x y =
    let first : IsProp (s.writer < n) = hlevel props in
    λ i. (first x.0 y.0 i, AreOf-prop n h x.1 y.1 i)
