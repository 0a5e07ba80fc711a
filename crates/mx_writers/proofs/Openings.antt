-- The shards at the start, one after another.
use Rattle.std.proofs.Common.{◌≡◌, ℕ, zero, suc, ◌+◌, ◌*◌, ◌⊎◌, List, [], ◌∷◌, ◌++◌, Option, Some, option_to_list, length, length-append, slice_get, drop, replicate, refl, sym, ap, ◌∙◌, subst, inl, inr, arith}
use Rattle.std.proofs.lemmas.Option.{none-some}
use mathlib.Core.Option as maybe
use mathlib.Core.Option.{some-ne-none, some-injective}
use lib.ListN.{get_elem?}
use Rattle.atomic_table.specs.Seated.{TableId}
use Rattle.atomic_table.specs.Table.{opening}
use Rattle.mx_writers.specs.Locks.{Fits, Locked, resting}
use Rattle.mx_writers.specs.Start.{AreShards}
use Rattle.mx_writers.proofs.Allowed.{opens}

-- the item at an index is the next of what is left, and what follows it is left then
module _ {A : Type 0} where
  dropped : (xs ys : List A) (i : ℕ) (x : A) → drop i xs ≡ x ∷ ys → (slice_get xs i ≡ Some x) × (ys ≡ drop (suc i) xs)
  dropped [] ys zero x e = absurd (none-some x (ap (λ l. slice_get l 0) e))
  dropped [] ys (suc i) x e = absurd (none-some x (ap (λ l. slice_get l 0) e))
  dropped (z ∷ xs) ys zero x e = (ap (λ l. slice_get l 0) e, sym (ap (drop 1) e))
  dropped (z ∷ xs) ys (suc i) x e = dropped xs ys i x e

  pub taken : (xs left ys : List A) (i : ℕ) (o : Option A) (x : A) → left ≡ drop i xs → left ≡ option_to_list o ++ ys → o ≡ Some x → (slice_get xs i ≡ Some x) × (ys ≡ drop (i + 1) xs)
  taken xs left ys i o x e e' is =
      let d = dropped xs ys i x (sym e ∙ e' ∙ ap (λ p. option_to_list p ++ ys) is) in
      (d.0, d.1 ∙ ap (λ n. drop n xs) (let same : suc i ≡ i + 1 = omega arith in same))

at_end : {A : Type 0} (l : List A) (a b : A) (j : ℕ) → get_elem? (l ++ a ∷ []) j ≡ maybe.some b → (get_elem? l j ≡ maybe.some b) ⊎ ((j ≡ length l) × (a ≡ b))
at_end [] a b zero e = inr (refl, some-injective a b e)
at_end [] a b (suc j) e = absurd (some-ne-none b (sym e))
at_end (x ∷ l) a b zero e = inl e
at_end (x ∷ l) a b (suc j) e = elim (at_end l a b j e) [ inl before ↦ inl before | inr last ↦ inr (ap suc last.0, last.1) ]

module _ {T : Type 0} (P : ℕ → TableId → T → Type 0) (at : TableId) where
  pub no_shards : (slots : List (Option T)) → slots ≡ [] → AreShards P at 0 slots
  no_shards slots e = subst (AreShards P at 0) (sym e) (record { count = refl; each = λ k o got. absurd (some-ne-none o (sym got)) })

  pub one_more : (n : ℕ) (slots more : List (Option T)) (x : T) → AreShards P at n slots → P n at x → more ≡ slots ++ Some x ∷ [] → AreShards P at (n + 1) more
  one_more n slots more x all new e = subst (AreShards P at (n + 1)) (sym e) (record {
    count = omega (arith, length-append slots (Some x ∷ []), all.count);
    each = λ k o got. elim (at_end slots (Some x) o k got) [
      | inl before ↦ all.each k o before
      | inr last ↦ subst (λ (z : ℕ × Option T). Fits (P z.0 at) (maybe.some z.1)) (λ i. (sym (last.0 ∙ all.count) i, last.1 i)) new
    ];
  })

  pub opens_with : (ws : List ℕ) (xs : List (Option T)) (n m : ℕ) → AreShards P at n xs → ws ≡ replicate (2 * m) 0 → m ≡ n → Locked P at (opening ws xs (resting at))
  opens_with ws xs n m are words same = subst (λ l. Locked P at (opening l xs (resting at))) (sym (words ∙ ap (λ k. replicate (2 * k) 0) same)) (opens P at xs n are.count are.each)
