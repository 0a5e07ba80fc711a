-- The start of a stream, and one pen more.
use Rattle.std.proofs.Common.{◌≡◌, ℕ, zero, suc, ◌+◌, ◌≤◌, ◌⊎◌, List, [], ◌∷◌, ◌++◌, Some, length, length-append, slice_get, refl, sym, ap, ◌∙◌, subst, inl, inr, arith}
use Rattle.std.proofs.lemmas.Option.{none-some, same_Some}
use Rattle.atomic_table.specs.Table.{opening}
use Rattle.atomic_table.specs.Seated.{TableId}
use Rattle.mx_core.specs.declared.placed.Placed.{Ghosts}
use Rattle.mx_core.specs.History.{Law}
use Rattle.mx_core.specs.Limits.{most_writers, last_stop}
use Rattle.mx_lanes.specs.Held.{Held, empty}
use Rattle.mx_front.specs.declared.board.Key.{Key}
use Rattle.mx_front.specs.declared.handles.Pen.{Pen}
use Rattle.mx_front.specs.World.{Slot, Ruled, opening_view}
use Rattle.mx_front.specs.Start.{IsNewPen, AreNewPens}
use Rattle.mx_front.proofs.Allowed.{opens}

pub opens_with : {I : Type 0} (law : Law I) (key : Key) (xs : List (Slot I)) (b : Held I) → xs ≡ Some b ∷ [] → b ≡ empty key.writers → 1 ≤ key.writers → key.writers ≤ most_writers → key.stop ≤ last_stop
    → Ruled law key (opening (0 ∷ 0 ∷ 0 ∷ 0 ∷ []) xs (opening_view key))
opens_with law key xs b e new some few small =
    subst (λ ys. Ruled law key (opening (0 ∷ 0 ∷ 0 ∷ 0 ∷ []) ys (opening_view key))) (sym (e ∙ ap (λ z. Some z ∷ []) new)) (opens law key some few small)

last_item : {A : Type 0} (xs : List A) (x y : A) (k : ℕ) → slice_get (xs ++ x ∷ []) k ≡ Some y → (slice_get xs k ≡ Some y) ⊎ ((k ≡ length xs) × (x ≡ y))
last_item [] x y zero e = inr (refl, same_Some x y e)
last_item [] x y (suc k) e = absurd (none-some y e)
last_item (z ∷ xs) x y zero e = inl e
last_item (z ∷ xs) x y (suc k) e = elim (last_item xs x y k e) [ inl before ↦ inl before | inr last ↦ inr (ap suc last.0, last.1) ]

module _ {I : Type 0} {g : Ghosts I} where
  pub no_pens : (at : TableId) (writers : ℕ) (pens : List (Pen I g)) → pens ≡ [] → AreNewPens at writers 0 pens
  no_pens at writers pens e = subst (AreNewPens at writers 0) (sym e) (record { count = refl; each = λ k p got. absurd (none-some p got) })

  pub one_pen_more : (at : TableId) (writers n : ℕ) (pens more : List (Pen I g)) (p : Pen I g) → AreNewPens at writers n pens → IsNewPen at writers n p → more ≡ pens ++ p ∷ [] → AreNewPens at writers (n + 1) more
  one_pen_more at writers n pens more p all new e = subst (AreNewPens at writers (n + 1)) (sym e) (record {
    count = omega (arith, length-append pens (p ∷ []), all.count);
    each = λ k q got. elim (last_item pens p q k got) [
      | inl before ↦ all.each k q before
      | inr last ↦ subst (λ (z : ℕ × Pen I g). IsNewPen at writers z.0 z.1) (λ i. (sym (last.0 ∙ all.count) i, last.1 i)) new
    ];
  })
