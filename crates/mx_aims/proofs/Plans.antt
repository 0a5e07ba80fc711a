-- What the drafts of one store's events ask.
use Rattle.std.proofs.Common.{◌≡◌, ◌+◌, Bool, true, false, nat_lt, List, [], ◌∷◌, ◌++◌, map, length, refl, sym, ap, ◌∙◌, arith, length-append}
use Rattle.mx_event.specs.declared.draft.Draft.{Draft}
use Rattle.mx_aims.specs.Again.{is_one, plan_by, plan_if, unplaced}
use Rattle.mx_aims.specs.Plans.{Plan, One, Block}

abbrev first_or : Draft → List Draft → Draft
first_or d [] = d
first_or d (x ∷ xs) = x

-- the last one of one draft is that one
pub one_plan : (ds before : List Draft) (d : Draft) → is_one ds ≡ true → ds ≡ before ++ d ∷ [] → One d ≡ plan_by ds
one_plan [] before d one is = absurd cc
one_plan (x ∷ []) [] d one is = ap One (ap (first_or d) (sym is)) ∙ sym (ap (λ b. plan_if b (x ∷ [])) one)
one_plan (x ∷ []) (b ∷ bs) d one is = let count : 1 ≡ length (b ∷ bs) + 1 = ap length is ∙ length-append (b ∷ bs) (d ∷ []) in absurd (omega (arith, count))
one_plan (x ∷ y ∷ ds) before d one is = absurd cc

pub block_plan : (ds all : List Draft) → is_one ds ≡ false → all ≡ map unplaced ds → Block all ≡ plan_by ds
block_plan ds all several is = ap Block is ∙ sym (ap (λ b. plan_if b ds) several)
