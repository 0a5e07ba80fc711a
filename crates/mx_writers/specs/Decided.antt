-- What is decided on a number: 0 is refused, and any other is stored. It can be stored wherever it is placed.
use Rattle.std.proofs.Common.{◌≡◌, ℕ, true, List, [], ◌∷◌, length, eqb, ◌==◌, if◌then◌else◌, refl, sym, ap, inl, inr, arith}
use Rattle.std.proofs.lemmas.Bool.{cases_Bool}
use Rattle.mx_writers.specs.declared.number.Number.{Number}
use Rattle.mx_writers.specs.declared.number.Zero.{Zero}
use Rattle.mx_writers.specs.Decision.{Decision, Stores, Refuses, AreLawful}

abbrev pub decided : ℕ → Decision Number Zero
decided draft = if draft == 0 then Refuses (record {}) else Stores (record { value = draft } ∷ [])

abbrev items_in : Decision Number Zero → List Number
items_in (Stores xs) = xs
items_in d = []

abbrev is_store : Decision Number Zero → ℕ
is_store (Stores xs) = 1
is_store d = 0

pub are_lawful : AreLawful {D = ℕ} (λ writer before first xs. true) (λ (item : Number) first at. item) (λ writer mine draft. decided draft)
are_lawful k mine draft xs lane e = elim (cases_Bool (eqb draft 0)) [
  | inl zero_draft ↦ let h : 0 ≡ 1 = ap is_store (rw zero_draft at e) in absurd (omega (arith, h))
  | inr other ↦
      let is : length xs ≡ 1 = sym (ap (λ d. length (items_in d)) (rw other at e)) in
      record { some_items = omega (arith, is); few = omega (arith, is); lawful = λ first may. refl }
]
