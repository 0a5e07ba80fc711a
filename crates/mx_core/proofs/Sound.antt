-- What holds of each reached state, kept by each step.
use Rattle.std.proofs.Common.{◌≡◌, ◌≢◌, ℕ, ◌+◌, ◌<◌, ◌≤◌, ◌⊎◌, zero, suc, true, false, List, [], ◌∷◌, ◌++◌, Option, Some, None, length, get_or, set, length-set, replicate, refl, sym, ap, ◌∙◌, subst, inl, inr, arith}
use Rattle.std.specs.List.{AllByRecursion}
use Rattle.std.proofs.lemmas.Bool.{cases_lt, cases_eq, false≢true, false_from_ne_true}
use Rattle.std.proofs.lemmas.Option.{none-some, same_Some}
use Rattle.mx_core.specs.declared.history.Stored.{Stored}
use Rattle.mx_core.specs.declared.machine.Block.{Block}
use Rattle.mx_core.specs.History.{is_stored, stored_count, AreOf}
use Rattle.mx_core.specs.State.{State, block_of, start, drawn, stored, count_of, held_count}
use Rattle.mx_core.proofs.Blocks.{block_at-start, block_at-here, block_at-else}
use Rattle.mx_core.proofs.Owns.{are_of_more}
use Rattle.mx_core.proofs.Histories.{stored_cases, stored_still, stored_new, stored_count-append}

pub record IsSound {I : Type 0} (s : State I) : Type 0 where
  pub within : (p : ℕ) → is_stored s.history p ≡ true → (0 < p) × (p ≤ s.next)
  pub held : (k : ℕ) (b : Block) → block_of s k ≡ Some b → (0 < b.first) × (0 < b.count) × (b.first + b.count ≤ s.next + 1)
  pub apart : (k : ℕ) (b : Block) (p : ℕ) → block_of s k ≡ Some b → b.first ≤ p → p < b.first + b.count → is_stored s.history p ≡ false
  pub distinct : (j k : ℕ) (a b : Block) → j ≢ k → block_of s j ≡ Some a → block_of s k ≡ Some b → (a.first + a.count ≤ b.first) ⊎ (b.first + b.count ≤ a.first)
  pub complete : (p : ℕ) → 0 < p → p ≤ s.next → (is_stored s.history p ≡ true) ⊎ ((k : ℕ) × (b : Block) × (block_of s k ≡ Some b) × (b.first ≤ p) × (p < b.first + b.count))
  pub counts : stored_count s.history + held_count s.held ≡ s.next
  pub bound : s.next ≤ s.limit
  pub filled : AllByRecursion (λ x. 0 < length x.items) s.history
  pub writers : AreOf (length s.held) s.history

pub block_cases : (held : List (Option Block)) (k j : ℕ) (v : Option Block) (b : Block) → k < length held → get_or (set held k v) j None ≡ Some b
    → ((j ≡ k) × (v ≡ Some b)) ⊎ ((j ≢ k) × (get_or held j None ≡ Some b))
block_cases held k j v b lt e = elim (cases_eq j k) [
  | inl same ↦ inl (same, sym (block_at-here held k v lt) ∙ subst (λ i. get_or (set held k v) i None ≡ Some b) same e)
  | inr other ↦ inr (other, sym (block_at-else held k j v other) ∙ e)
]

held_count-set : (held : List (Option Block)) (k : ℕ) (v : Option Block) → k < length held → held_count (set held k v) + count_of (get_or held k None) ≡ held_count held + count_of v
held_count-set [] k v lt = absurd (omega arith)
held_count-set (o ∷ held) zero v lt = omega arith
held_count-set (o ∷ held) (suc k) v lt =
    let e : held_count (set held k v) + count_of (get_or held k None) ≡ held_count held + count_of v = held_count-set held k v (omega arith) in
    omega arith

held_count-start : (n : ℕ) → held_count (replicate n None) ≡ 0
held_count-start zero = refl
held_count-start (suc n) = let e : held_count (replicate n None) ≡ 0 = held_count-start n in omega arith

filled-push : {I : Type 0} (h : List (Stored I)) (x : Stored I) → AllByRecursion (λ y. 0 < length y.items) h → 0 < length x.items → AllByRecursion (λ y. 0 < length y.items) (h ++ x ∷ [])
filled-push [] x a pos = (pos, tt)
filled-push (y ∷ h) x a pos = (a.0, filled-push h x a.1 pos)

pub filled_length : {I : Type 0} (h : List (Stored I)) → AllByRecursion (λ y. 0 < length y.items) h → length h ≤ stored_count h
filled_length [] a = omega arith
filled_length (y ∷ h) a = let le : length h ≤ stored_count h = filled_length h a.1 in let pos : 0 < length y.items = a.0 in omega arith

pub sound_start : {I : Type 0} (writers limit : ℕ) → IsSound {I = I} (start writers limit)
sound_start writers limit = record {
  within = λ p e. absurd (false≢true e);
  held = λ k b e. absurd (none-some b (sym (block_at-start writers k) ∙ e));
  apart = λ k b p e low high. refl;
  distinct = λ j k a b ne ej ek. absurd (none-some a (sym (block_at-start writers j) ∙ ej));
  complete = λ p pos le. absurd (omega arith);
  counts = omega (arith, held_count-start writers);
  bound = omega arith;
  filled = tt;
  writers = tt;
}

-- the block that a draw makes lies above all that was drawn
new_block : {b : Block} (first count : ℕ) → ◌≡◌ {A = Option Block} (Some (record { first = first; count = count })) (Some b) → (b.first ≡ first) × (b.count ≡ count)
new_block {b} first count e =
    let same : ◌≡◌ {A = Block} (record { first = first; count = count }) b = same_Some (record { first = first; count = count }) b e in
    (sym (ap (λ x. x.first) same), sym (ap (λ x. x.count) same))

module _ {I : Type 0} (s : State I) (r : IsSound s) (k : ℕ) where
  drawn_held : (count : ℕ) → k < length s.held → 0 < count
      → (j : ℕ) (b : Block) → block_of (drawn s k count) j ≡ Some b → (0 < b.first) × (0 < b.count) × (b.first + b.count ≤ (s.next + count) + 1)
  drawn_held count lt pos j b e = elim (block_cases s.held k j _ b lt e) [
    | inl here ↦ let is = new_block (s.next + 1) count here.1 in (omega (arith, is.0), omega (arith, is.1), omega (arith, is.0, is.1))
    | inr else ↦ let old = r.held j b else.1 in (old.0, old.1, omega (arith, old.2))
  ]

  drawn_apart : (count : ℕ) → k < length s.held
      → (j : ℕ) (b : Block) (p : ℕ) → block_of (drawn s k count) j ≡ Some b → b.first ≤ p → p < b.first + b.count → is_stored s.history p ≡ false
  drawn_apart count lt j b p e low high = elim (block_cases s.held k j _ b lt e) [
    | inl here ↦ let is = new_block (s.next + 1) count here.1 in
        false_from_ne_true (is_stored s.history p) (λ t. let old = r.within p t in omega (arith, is.0, old.1))
    | inr else ↦ r.apart j b p else.1 low high
  ]

  drawn_distinct : (count : ℕ) → k < length s.held
      → (i j : ℕ) (a b : Block) → i ≢ j → block_of (drawn s k count) i ≡ Some a → block_of (drawn s k count) j ≡ Some b → (a.first + a.count ≤ b.first) ⊎ (b.first + b.count ≤ a.first)
  drawn_distinct count lt i j a b ne ei ej = elim (block_cases s.held k i _ a lt ei) [
    | inl here ↦ elim (block_cases s.held k j _ b lt ej) [
      | inl both ↦ absurd (ne (here.0 ∙ sym both.0))
      | inr else ↦ let is = new_block (s.next + 1) count here.1 in let old = r.held j b else.1 in inr (omega (arith, is.0, old.2))
    ]
    | inr else ↦ elim (block_cases s.held k j _ b lt ej) [
      | inl here ↦ let is = new_block (s.next + 1) count here.1 in let old = r.held i a else.1 in inl (omega (arith, is.0, old.2))
      | inr both ↦ r.distinct i j a b ne else.1 both.1
    ]
  ]

  drawn_complete : (count : ℕ) → k < length s.held → block_of s k ≡ None
      → (p : ℕ) → 0 < p → p ≤ s.next + count → (is_stored s.history p ≡ true) ⊎ ((j : ℕ) × (b : Block) × (block_of (drawn s k count) j ≡ Some b) × (b.first ≤ p) × (p < b.first + b.count))
  drawn_complete count lt free p pos le = elim (cases_lt s.next p) [
    | inl above ↦ inr (k, record { first = s.next + 1; count = count }, block_at-here s.held k _ lt, omega arith, omega arith)
    | inr below ↦ elim (r.complete p pos below) [
      | inl old ↦ inl old
      | inr old ↦ inr (old.0, old.1, block_at-else s.held k old.0 _ (λ same. none-some old.1 (sym free ∙ subst (λ i. block_of s i ≡ Some old.1) same old.2)) ∙ old.2, old.3, old.4)
    ]
  ]

  pub sound_drawn : (count : ℕ) → k < length s.held → 0 < count → block_of s k ≡ None → s.next + count < s.limit → IsSound (drawn s k count)
  sound_drawn count lt pos free below = record {
    within = λ p e. let old = r.within p e in (old.0, omega (arith, old.1));
    held = drawn_held count lt pos;
    apart = drawn_apart count lt;
    distinct = drawn_distinct count lt;
    complete = drawn_complete count lt free;
    counts =
        let none : count_of (block_of s k) ≡ 0 = ap count_of free in
        let more = held_count-set s.held k (Some (record { first = s.next + 1; count = count })) lt in
        omega (arith, r.counts, none, more);
    bound = omega arith;
    filled = r.filled;
    writers = subst (λ n. AreOf n s.history) (sym (length-set s.held k (Some (record { first = s.next + 1; count = count })))) r.writers;
  }

  stored_within : (b : Block) (items : List I) → block_of s k ≡ Some b → b.count ≡ length items
      → (p : ℕ) → is_stored (stored s k b.first items).history p ≡ true → (0 < p) × (p ≤ s.next)
  stored_within b items is count p e = elim (stored_cases s.history _ p e) [
    | inl old ↦ r.within p old
    | inr new ↦ let old = r.held k b is in (omega (arith, old.0, new.0), omega (arith, old.2, new.1))
  ]

  kept_block : (b : Block) (items : List I) → k < length s.held
      → (j : ℕ) (c : Block) → block_of (stored s k b.first items) j ≡ Some c → (j ≢ k) × (block_of s j ≡ Some c)
  kept_block b items lt j c e = elim (block_cases s.held k j None c lt e) [
    | inl here ↦ absurd (none-some c here.1)
    | inr else ↦ else
  ]

  stored_apart_else : (b : Block) (items : List I) → k < length s.held → block_of s k ≡ Some b → b.count ≡ length items
      → (j : ℕ) (c : Block) (p : ℕ) → block_of (stored s k b.first items) j ≡ Some c → c.first ≤ p → p < c.first + c.count → is_stored (stored s k b.first items).history p ≡ false
  stored_apart_else b items lt is count j c p e low high =
      let old = kept_block b items lt j c e in
      false_from_ne_true (is_stored (stored s k b.first items).history p) (λ t. elim (stored_cases s.history _ p t) [
        | inl before ↦ false≢true (sym (r.apart j c p old.1 low high) ∙ before)
        | inr new ↦ elim (r.distinct j k c b old.0 old.1 is) [
          | inl under ↦ omega (arith, new.0)
          | inr over ↦ omega (arith, new.1)
        ]
      ])

  stored_complete : (b : Block) (items : List I) → block_of s k ≡ Some b → b.count ≡ length items
      → (p : ℕ) → 0 < p → p ≤ s.next → (is_stored (stored s k b.first items).history p ≡ true) ⊎ ((j : ℕ) × (c : Block) × (block_of (stored s k b.first items) j ≡ Some c) × (c.first ≤ p) × (p < c.first + c.count))
  stored_complete b items is count p pos le = elim (r.complete p pos le) [
    | inl old ↦ inl (stored_still s.history _ p old)
    | inr old ↦ elim (cases_eq old.0 k) [
      | inl same ↦
          let one : old.1 ≡ b = same_Some old.1 b (sym old.2 ∙ subst (λ i. block_of s i ≡ Some b) (sym same) is) in
          let first : old.1.first ≡ b.first = ap (λ x. x.first) one in
          let size : old.1.count ≡ b.count = ap (λ x. x.count) one in
          let low : old.1.first ≤ p = old.3 in
          let high : p < old.1.first + old.1.count = old.4 in
          inl (stored_new s.history (record { writer = k; first = b.first; items = items }) p (omega arith) (omega arith))
      | inr other ↦ inr (old.0, old.1, block_at-else s.held k old.0 None other ∙ old.2, old.3, old.4)
    ]
  ]

  pub sound_stored : (b : Block) (items : List I) → k < length s.held → block_of s k ≡ Some b → b.count ≡ length items → IsSound (stored s k b.first items)
  sound_stored b items lt is count = record {
    within = stored_within b items is count;
    held = λ j c e. r.held j c (kept_block b items lt j c e).1;
    apart = stored_apart_else b items lt is count;
    distinct = λ i j a c ne ei ej. r.distinct i j a c ne (kept_block b items lt i a ei).1 (kept_block b items lt j c ej).1;
    complete = stored_complete b items is count;
    counts =
        let size : count_of (block_of s k) ≡ b.count = ap count_of is in
        let less = held_count-set s.held k None lt in
        let more = stored_count-append s.history (record { writer = k; first = b.first; items = items } ∷ []) in
        omega (arith, r.counts, size, less, more);
    bound = r.bound;
    filled = filled-push s.history _ r.filled (let old = r.held k b is in omega (arith, old.1));
    writers = subst (λ n. AreOf n (stored s k b.first items).history) (sym (length-set s.held k None)) (are_of_more (length s.held) s.history _ r.writers lt);
  }
