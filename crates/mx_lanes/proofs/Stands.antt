-- What a book stands for.
use Rattle.std.proofs.Common.{◌≡◌, ℕ, List, [], ◌∷◌, ◌++◌, length, refl, sym, ap, ◌∙◌, subst, inl, inr, arith}
use Rattle.std.proofs.lemmas.Bool.{cases_lt, false≢true}
use Rattle.std.proofs.lemmas.List.{same_from_push}
use Rattle.mx_core.specs.declared.history.Stored.{Stored}
use Rattle.mx_core.specs.Front.{IsFront}
use Rattle.mx_lanes.specs.Held.{Held, empty, StandsFor}
use Rattle.mx_lanes.specs.Laws.{OneHistory, OneStoreMore, StandsStill}

pub one_history : {I : Type 0} → OneHistory I
one_history h k b a c = sym a.history ∙ c.history

-- the store by which a book goes beyond a history is known by the book
pub next_one : {I : Type 0} (h : List (Stored I)) (x y : Stored I) (b : Held I) → StandsFor (h ++ x ∷ []) b → StandsFor (h ++ y ∷ []) b → x ≡ y
next_one h x y b a c = (same_from_push h h x y (one_history (h ++ x ∷ []) (h ++ y ∷ []) b a c)).1

stands : {I : Type 0} (h : List (Stored I)) (b : Held I) → b.history ≡ h → IsFront b.history b.front → StandsFor h b
stands h b is front = record { history = is; stores = ap length is; front = subst (λ l. IsFront l b.front) is front }

-- an empty book stands for the empty history
pub stands_empty : {I : Type 0} (writers : ℕ) → StandsFor {I = I} [] (empty writers)
stands_empty writers = stands [] (empty writers) refl (record {
  stored = λ p pos le. absurd (omega arith);
  greatest = λ g all. elim (cases_lt 0 g) [ inl pos ↦ absurd (false≢true (all g pos (omega arith))) | inr le ↦ le ];
})

pub one_store_more : {I : Type 0} → OneStoreMore I
one_store_more h x old new a more front = stands (h ++ x ∷ []) new (more ∙ ap (λ l. l ++ x ∷ []) a.history) front

pub stands_still : {I : Type 0} → StandsStill I
stands_still h old new a k = record {
  history = k.history ∙ a.history;
  stores = ap length (k.history ∙ a.history);
  front = subst (IsFront h) (sym k.front) a.front;
}
