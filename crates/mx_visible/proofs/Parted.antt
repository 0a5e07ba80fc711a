-- A room's list, parted at the two ends of a window.
use Rattle.std.proofs.Common.{◌≡◌, ℕ, ◌≤◌, max, List, [], ◌∷◌, ◌++◌, ap, sym, ◌∙◌, arith, inl, inr}
use Rattle.std.proofs.lemmas.Bool.{cases_lt}
use Rattle.std.specs.List.{AllByRecursion}
use Rattle.mx_window.specs.Windows.{Ascends, between}
use Rattle.mx_window.proofs.Each.{AllByRecursion-weaker}
use Rattle.mx_window.proofs.Intervals.{between-empty, between-split}
use Rattle.mx_window.proofs.Sections.{whole-between}

module _ {E : Type 0} (at : E → ℕ) where
  -- a position that none of the items lies after, and that isn't below another
  abbrev top : ℕ → List E → ℕ
  top n [] = n
  top n (e ∷ es) = max (at e) (top n es)

  top_over : (n : ℕ) (es : List E) → n ≤ top n es
  top_over n [] = omega arith
  top_over n (e ∷ es) = let rest : n ≤ top n es = top_over n es in omega (arith, rest)

  all_upto : (n : ℕ) (es : List E) → AllByRecursion (λ (e : E). at e ≤ top n es) es
  all_upto n [] = tt
  all_upto n (e ∷ es) = (omega arith, AllByRecursion-weaker (λ (d : E). at d ≤ top n es) (λ (d : E). at d ≤ max (at e) (top n es)) (λ d h. let upto : at d ≤ top n es = h in omega (arith, upto)) es (all_upto n es))

  pub parted : (low high : ℕ) (es : List E) → Ascends at 0 es → low ≤ high → es ≡ between at 0 low es ++ (between at low high es ++ between at high (top high es) es)
  parted low high es up ordered =
      let end : high ≤ top high es = top_over high es in
      whole-between at 0 0 (top high es) es up (omega arith) (all_upto high es)
      ∙ between-split at 0 low (top high es) 0 es up (omega arith) (omega (arith, ordered, end))
      ∙ ap (λ l. between at 0 low es ++ l) (between-split at low high (top high es) 0 es up ordered end)

  -- what follows a window, also where its end lies below its begin
  pub cut_at : (low high : ℕ) (es : List E) → Ascends at 0 es → (rest : List E) × (es ≡ between at 0 low es ++ (between at low high es ++ rest))
  cut_at low high es up = elim (cases_lt high low) [
    | inl below ↦ (
      between at low (top low es) es,
      parted low low es up (omega arith)
          ∙ ap (λ l. between at 0 low es ++ (l ++ between at low (top low es) es)) (between-empty at low low es (omega arith) ∙ sym (between-empty at low high es (omega (arith, below)))),
    )
    | inr above ↦ (between at high (top high es) es, parted low high es up (omega (arith, above)))
  ]
