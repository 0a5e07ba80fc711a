-- Queues side by side: the two words and the slot of each.
use Rattle.std.proofs.Common.{◌≡◌, ℕ, zero, suc, ◌*◌, ◌<◌, List, [], ◌∷◌, length, get_or, set, refl, sym, ap, ◌∙◌, arith}
use mathlib.Core.Option as maybe
use mathlib.Core.Option.{some-ne-none, some-injective}
use lib.ListN.{get_elem?}
use Rattle.mx_front.specs.Queue.{Line}
use Rattle.mx_writers.specs.Locks.{words_of, slots_of}

abbrev pub double : ℕ → ℕ
double zero = zero
double (suc k) = suc (suc (double k))

pub double_is : (k : ℕ) → 2 * k ≡ double k
double_is zero = refl
double_is (suc k) = let rest : 2 * k ≡ double k = double_is k in omega (arith, rest)

module _ {A : Type 0} where
  pub set_there : (l : List A) (k : ℕ) (a b : A) → get_elem? l k ≡ maybe.some a → get_elem? (set l k b) k ≡ maybe.some b
  set_there [] k a b e = absurd (some-ne-none a (sym e))
  set_there (x ∷ l) zero a b e = refl
  set_there (x ∷ l) (suc k) a b e = set_there l k a b e

  pub there : (l : List A) (k : ℕ) → k < length l → (a : A) × (get_elem? l k ≡ maybe.some a)
  there [] k lt = absurd (omega (arith, lt))
  there (x ∷ l) zero lt = (x, refl)
  there (x ∷ l) (suc k) lt = there l k (omega (arith, lt))

module _ {T : Type 0} where
  pub ticket_at : (ls : List (Line T)) (k : ℕ) (l : Line T) → get_elem? ls k ≡ maybe.some l → get_or (words_of ls) (double k) 0 ≡ l.ticket
  ticket_at [] k l e = absurd (some-ne-none l (sym e))
  ticket_at (x ∷ ls) zero l e = ap (λ y. y.ticket) (some-injective x l e)
  ticket_at (x ∷ ls) (suc k) l e = ticket_at ls k l e

  pub serving_at : (ls : List (Line T)) (k : ℕ) (l : Line T) → get_elem? ls k ≡ maybe.some l → get_or (words_of ls) (suc (double k)) 0 ≡ l.serving
  serving_at [] k l e = absurd (some-ne-none l (sym e))
  serving_at (x ∷ ls) zero l e = ap (λ y. y.serving) (some-injective x l e)
  serving_at (x ∷ ls) (suc k) l e = serving_at ls k l e

  pub ticket_set : (ls : List (Line T)) (k n : ℕ) (l to : Line T) → get_elem? ls k ≡ maybe.some l → n ≡ to.ticket → l.serving ≡ to.serving → set (words_of ls) (double k) n ≡ words_of (set ls k to)
  ticket_set [] k n l to e t s = absurd (some-ne-none l (sym e))
  ticket_set (x ∷ ls) zero n l to e t s = let same : x.serving ≡ to.serving = ap (λ y. y.serving) (some-injective x l e) ∙ s in λ i. t i ∷ same i ∷ words_of ls
  ticket_set (x ∷ ls) (suc k) n l to e t s = ap (λ ws. x.ticket ∷ x.serving ∷ ws) (ticket_set ls k n l to e t s)

  pub serving_set : (ls : List (Line T)) (k n : ℕ) (l to : Line T) → get_elem? ls k ≡ maybe.some l → n ≡ to.serving → l.ticket ≡ to.ticket → set (words_of ls) (suc (double k)) n ≡ words_of (set ls k to)
  serving_set [] k n l to e s t = absurd (some-ne-none l (sym e))
  serving_set (x ∷ ls) zero n l to e s t = let same : x.ticket ≡ to.ticket = ap (λ y. y.ticket) (some-injective x l e) ∙ t in λ i. same i ∷ s i ∷ words_of ls
  serving_set (x ∷ ls) (suc k) n l to e s t = ap (λ ws. x.ticket ∷ x.serving ∷ ws) (serving_set ls k n l to e s t)

  pub slot_at : (ls : List (Line T)) (k : ℕ) (l : Line T) → get_elem? ls k ≡ maybe.some l → get_elem? (slots_of ls) k ≡ maybe.some l.slot
  slot_at [] k l e = absurd (some-ne-none l (sym e))
  slot_at (x ∷ ls) zero l e = ap (λ y. maybe.some y.slot) (some-injective x l e)
  slot_at (x ∷ ls) (suc k) l e = slot_at ls k l e

  pub slot_set : (ls : List (Line T)) (k : ℕ) (to : Line T) → set (slots_of ls) k to.slot ≡ slots_of (set ls k to)
  slot_set [] k to = refl
  slot_set (x ∷ ls) zero to = refl
  slot_set (x ∷ ls) (suc k) to = ap (λ os. x.slot ∷ os) (slot_set ls k to)

  pub slot_same : (ls : List (Line T)) (k : ℕ) (l to : Line T) → get_elem? ls k ≡ maybe.some l → l.slot ≡ to.slot → slots_of ls ≡ slots_of (set ls k to)
  slot_same [] k l to e s = refl
  slot_same (x ∷ ls) zero l to e s = let same : x.slot ≡ to.slot = ap (λ y. y.slot) (some-injective x l e) ∙ s in λ i. same i ∷ slots_of ls
  slot_same (x ∷ ls) (suc k) l to e s = ap (λ os. x.slot ∷ os) (slot_same ls k l to e s)
