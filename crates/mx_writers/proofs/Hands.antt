-- The shard in hand, from the ticket to the end of the turn.
use Rattle.std.proofs.Common.{◌≡◌, ℕ, ◌+◌, ◌*◌, ◌^◌, ◌<◌, List, [], ◌∷◌, Some, None, refl, sym, ◌∙◌, subst}
use mathlib.Core.Option as maybe
use Rattle.atomic_table.specs.Seated.{TableId}
use Rattle.atomic_table.specs.Table.{step, Allows, rest}
use Rattle.mx_front.specs.declared.view.Turn.TheVariants.{Waits, Has}
use Rattle.mx_writers.specs.Locks.{Locked, resting}
use Rattle.mx_writers.specs.Tells.{Sat, Came, left, HasTurn}
use Rattle.mx_writers.proofs.Allowed.{leaves_at}

pub hand_rest : {A : Type 0} (c : List (ℕ × A)) (k n : ℕ) (x : A) → c ≡ (k, x) ∷ [] → n ≡ k → c ≡ (n, x) ∷ rest c
hand_rest c k n x e same = e ∙ (λ i. (sym same i, x) ∷ rest (sym e i))

pub claimed_from : {T : Type 0} (at : TableId) (k found t : ℕ) (m m' : Sat T) → m ≡ (resting at, []) → m' ≡ (record m.0 { turn = Waits found; writer = k }, m.1) → found ≡ t
    → m' ≡ (record (resting at) { turn = Waits t; writer = k }, [])
claimed_from at k found t m m' e e' same = e' ∙ (λ i. (record (e i).0 { turn = Waits (same i); writer = k }, (e i).1))

module _ {T : Type 0} (P : ℕ → TableId → T → Type 0) where
  pub has_turn : (at : TableId) (k t : ℕ) (m m' : Sat T) → m ≡ (record (resting at) { turn = Waits t; writer = k }, []) → Came P m t m' → t + 1 < 2 ^ 64 → HasTurn P at k t m'
  has_turn at k t m m' e came below = let c = subst (λ z. Came P z t m') e came in record { shard = c.shard; is = c.is; fits = c.fits; below = below }

  pub leaves_from : (key at : TableId) (slots id t i k n : ℕ) (m m' : Sat T) (x : T) → m ≡ (record { turn = Has t; writer = k; at = at }, (k, None) ∷ []) → m' ≡ (m.0, (n, Some x) ∷ rest m.1)
      → n ≡ k → i ≡ 2 * k + 1 → P k at x → Allows (Locked P key) slots id m' i (λ _. t + 1) (λ _. left (step slots i (t + 1) 0 maybe.none) m' (t + 1))
  leaves_from key at slots id t i k n m m' x e e' same word fits =
      let is : m' ≡ (record { turn = Has t; writer = k; at = at }, (k, Some x) ∷ []) = e' ∙ (λ j. ((e j).0, (same j, Some x) ∷ rest (e j).1)) in
      subst (λ z. Allows (Locked P key) slots id z i (λ _. t + 1) (λ _. left (step slots i (t + 1) 0 maybe.none) z (t + 1))) (sym is)
      (leaves_at P key slots id t i (record { turn = Has t; writer = k; at = at }, (k, Some x) ∷ []) x word refl refl fits)
