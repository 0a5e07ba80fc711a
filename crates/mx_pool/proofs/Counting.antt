-- The connections that were begun: one more, and as many in the end.
use Rattle.std.proofs.Common.{◌≡◌, ℕ, suc, ◌+◌, Bool, true, false, List, [], ◌∷◌, ◌++◌, Option, Some, None, IfSome, length, refl, sym, ap, ◌∙◌, subst, arith, map, append_assoc, length-append}
use Rattle.std.specs.List.{slice_get}
use Rattle.mx_outside.specs.Accepts.{Gives}
use Rattle.mx_outside.specs.Calls.{FaultPlan, called, counted}
use Rattle.mx_outside.specs.declared.listener.Accepted.TheVariants as accepted
use Rattle.mx_pool.specs.Connections.{Ends, change}
use Rattle.mx_pool.specs.Serving.{AreBegun, AreTaken, IsGiven, IsOneOf, IsTelling, after_calls, refused_by}
use Rattle.mx_pool.specs.declared.serving.Served.{Served}
use Rattle.mx_pool.specs.declared.serving.Served.TheVariants as served

after_more : (n calls : ℕ) → after_calls (n + 1) calls ≡ counted (after_calls n calls)
after_more n calls = let e : n + 1 ≡ suc n = omega arith in ap (λ k. after_calls k calls) e

-- a start counts as a call, whatever comes of it
pub next_called : (refused : Bool) (old new : FaultPlan) → new ≡ called refused old → new.next ≡ counted old.next
next_called true old new is = ap (λ (p : FaultPlan). p.next) is
next_called false old new is = ap (λ (p : FaultPlan). p.next) is

pub start_more : (refused : Bool) (old new : FaultPlan) (from n m : ℕ) → new ≡ called refused old → old.next ≡ after_calls n from → m ≡ n + 1 → new.next ≡ after_calls m from
start_more refused old new from n m is starts more =
    next_called refused old new is ∙ ap counted starts ∙ sym (after_more n from) ∙ ap (λ k. after_calls k from) (sym more)

module _ {P : Type 0} where
  -- none was taken
  pub taken_none : (pairs : Option (List P)) → AreTaken (change pairs pairs) 0
  taken_none None = tt
  taken_none (Some ps) = ([], refl, refl)

module _ {A B : Type 0} where
  taken_step : (start old new : Option (List (A × B))) (n : ℕ) (a : A) (b : B) → (old ≡ None → ⊥) → AreTaken (change start old) n → Gives old new (accepted.Pair a b) → AreTaken (change start new) (n + 1)
  taken_step None old new n a b told taken gives = tt
  taken_step (Some ss) None new n a b told taken gives = absurd (told refl)
  taken_step (Some ss) (Some ps) None n a b told taken gives = tt
  taken_step (Some ss) (Some ps) (Some qs) n a b told taken gives =
      let front = taken.0 in
      (front ++ (a, b) ∷ [], length-append front ((a, b) ∷ []) ∙ ap (λ k. k + 1) taken.1, taken.2 ∙ ap (λ l. front ++ l) gives ∙ sym (append_assoc front ((a, b) ∷ []) qs))

  at_front : (ends : (A × B) → Ends) (front : List (A × B)) (p : A × B) (qs : List (A × B)) → slice_get (map ends (front ++ p ∷ qs)) (length front) ≡ Some (ends p)
  at_front ends [] p qs = refl
  at_front ends (f ∷ front) p qs = at_front ends front p qs

  given_step : (ends : (A × B) → Ends) (start old new : Option (List (A × B))) (n : ℕ) (a : A) (b : B) → (old ≡ None → ⊥) → (new ≡ None → ⊥) → AreTaken (change start old) n → Gives old new (accepted.Pair a b)
      → IfSome start (λ ps. IsOneOf ends ps (ends (a, b)))
  given_step ends None old new n a b told after taken gives = tt
  given_step ends (Some ss) None new n a b told after taken gives = absurd (told refl)
  given_step ends (Some ss) (Some ps) None n a b told after taken gives = absurd (after refl)
  given_step ends (Some ss) (Some ps) (Some qs) n a b told after taken gives =
      let front = taken.0 in
      let is : ss ≡ front ++ (a, b) ∷ qs = taken.2 ∙ ap (λ l. front ++ l) gives in
      (length front, subst (λ l. slice_get (map ends l) (length front) ≡ Some (ends (a, b))) (sym is) (at_front ends front (a, b) qs))

  module _ {L : Type 0} (left : L → Option (List (A × B))) (start : Option (List (A × B))) (old new : L) (n : ℕ) where
    pub taken_more : (m : ℕ) (a : A) (b : B) → m ≡ n + 1 → (IsTelling left → AreTaken (change start (left old)) n) → Gives (left old) (left new) (accepted.Pair a b) → IsTelling left → AreTaken (change start (left new)) m
    taken_more m a b more taken gives tells =
        subst (λ k. AreTaken (change start (left new)) k) (sym more) (taken_step start (left old) (left new) n a b (tells old) (taken tells) gives)

    pub given_one : (ends : (A × B) → Ends) (a : A) (b : B) → (IsTelling left → AreTaken (change start (left old)) n) → Gives (left old) (left new) (accepted.Pair a b) → IsGiven left ends start (ends (a, b))
    given_one ends a b taken gives tells = given_step ends start (left old) (left new) n a b (tells old) (tells new) (taken tells) gives

    -- no pair came, and no job was refused
    pub begun_still : (how : Served) (from at : ℕ) → refused_by how ≡ 0 → left new ≡ left old → at ≡ after_calls n from → (IsTelling left → AreTaken (change start (left old)) n)
        → AreBegun left (change start (left new)) (change from at) how n
    begun_still how from at none same starts taken =
        let k : n ≡ n + refused_by how = omega (arith, none) in record {
          starts_are = starts ∙ ap (λ j. after_calls j from) k;
          taken = λ tells. subst (λ j. AreTaken (change start (left new)) j) k (subst (λ l. AreTaken (change start l) n) (sym same) (taken tells));
        }

    -- a job was refused
    pub begun_refused : (m k from at : ℕ) → m + 1 ≡ k → at ≡ after_calls k from → (IsTelling left → AreTaken (change start (left new)) k) → AreBegun left (change start (left new)) (change from at) served.StartRefused m
    begun_refused m k from at is starts taken = record {
      starts_are = starts ∙ ap (λ j. after_calls j from) (sym is);
      taken = λ tells. subst (λ j. AreTaken (change start (left new)) j) (sym is) (taken tells);
    }
