-- The laws of reached states, and of their fronts.
use Rattle.std.proofs.Common.{◌≡◌, ℕ, ◌+◌, ◌-◌, ◌<◌, ◌≤◌, ◌⊎◌, zero, suc, true, false, List, [], ◌∷◌, ◌++◌, Option, Some, None, length, get_or, min, refl, sym, ap, ◌∙◌, subst, inl, inr, arith}
use Rattle.std.proofs.lemmas.Bool.{cases_lt, false≢true, false_from_ne_true}
use Rattle.std.proofs.lemmas.Option.{same_Some}
use Rattle.mx_core.specs.declared.machine.Block.{Block}
use Rattle.mx_core.specs.declared.machine.Step.{Step}
use Rattle.mx_core.specs.declared.machine.Step.TheVariants.{Draw, Store}
use Rattle.mx_core.specs.Front.{IsFront}
use Rattle.mx_core.specs.History.{item_at, is_stored, stored_count, AreOf, Begins}
use Rattle.mx_core.specs.Moves.{Takes}
use Rattle.mx_core.specs.Runs.{Runs, IsReached, CoversNoUnfinishedWrite, NeverFalls}
use Rattle.mx_core.specs.State.{State, start, block_of, drawn, stored, held_count, before_block, free_to}
use Rattle.mx_core.proofs.Histories.{no_item, item_kept, front_below, begins_self, begins_trans}
use Rattle.mx_core.proofs.Sound.{IsSound, sound_start, sound_drawn, sound_stored, filled_length}

pub sound_taken : {I : Type 0} (s t : State I) (step : Step I) → Takes s step t → IsSound s → IsSound t
sound_taken s t (Draw writer count) take r = subst IsSound (sym take.3) (sound_drawn s r writer count take.0.0 take.0.1 take.1 take.2)
sound_taken s t (Store writer items) take r = let b = take.1.0 in subst IsSound (sym take.1.3) (sound_stored s r writer b items take.0 take.1.1 take.1.2)

sound_run : {I : Type 0} (s t : State I) (steps : List (Step I)) → Runs s steps t → IsSound s → IsSound t
sound_run s t [] run r = subst IsSound run r
sound_run s t (step ∷ steps) run r = sound_run run.0 t steps run.2 (sound_taken s run.0 step run.1 r)

pub is_sound : {I : Type 0} (s : State I) → IsReached s → IsSound s
is_sound s reached = sound_run (start reached.writers reached.limit) s reached.steps reached.run (sound_start reached.writers reached.limit)

run_more : {I : Type 0} (s t u : State I) (steps : List (Step I)) (step : Step I) → Runs s steps t → Takes t step u → Runs s (steps ++ step ∷ []) u
run_more s t u [] step run take = (u, subst (λ x. Takes x step u) (sym run) take, refl)
run_more s t u (first ∷ steps) step run take = (run.0, run.1, run_more run.0 t u steps step run.2 take)

pub ran : {I : Type 0} (s : State I) (writers limit : ℕ) (steps : List (Step I)) → Runs (start writers limit) steps s → IsReached s
ran s writers limit steps run = record { writers = writers; limit = limit; steps = steps; run = run }

-- the start is reached, and what a step makes of a reached state
pub reached_start : {I : Type 0} (writers limit : ℕ) → IsReached {I = I} (start writers limit)
reached_start writers limit = record { writers = writers; limit = limit; steps = []; run = refl }

reached_taken : {I : Type 0} (s t : State I) (step : Step I) → IsReached s → Takes s step t → IsReached t
reached_taken s t step reached take = record {
  writers = reached.writers;
  limit = reached.limit;
  steps = reached.steps ++ step ∷ [];
  run = run_more (start reached.writers reached.limit) s t reached.steps step reached.run take;
}

pub reached_drawn : {I : Type 0} (s : State I) (k n : ℕ) → IsReached s → k < length s.held → 0 < n → block_of s k ≡ None → s.next + n < s.limit → IsReached (drawn s k n)
reached_drawn s k n reached lt pos free below = reached_taken s (drawn s k n) (Draw k n) reached ((lt, pos), free, below, refl)

pub reached_stored : {I : Type 0} (s : State I) (k : ℕ) (b : Block) (items : List I) → IsReached s → k < length s.held → block_of s k ≡ Some b → b.count ≡ length items → IsReached (stored s k b.first items)
reached_stored s k b items reached lt is count = reached_taken s (stored s k b.first items) (Store k items) reached (lt, (b, is, count, refl))

-- each store is of one of the writers
pub reached_writers : {I : Type 0} (s : State I) → IsReached s → AreOf (length s.held) s.history
reached_writers s reached = (is_sound s reached).writers

-- a stored position is one of those drawn
pub stored_in : {I : Type 0} (s : State I) → IsReached s → (p : ℕ) → is_stored s.history p ≡ true → (0 < p) × (p ≤ s.next)
stored_in s reached = (is_sound s reached).within

-- no position of a held block is stored
pub stored_apart : {I : Type 0} (s : State I) → IsReached s → (k : ℕ) (b : Block) (p : ℕ) → block_of s k ≡ Some b → b.first ≤ p → p < b.first + b.count → is_stored s.history p ≡ false
stored_apart s reached = (is_sound s reached).apart

-- a held block has positions, and they are among those drawn
pub held_in : {I : Type 0} (s : State I) → IsReached s → (k : ℕ) (b : Block) → block_of s k ≡ Some b → (0 < b.first) × (0 < b.count) × (b.first + b.count ≤ s.next + 1)
held_in s reached = (is_sound s reached).held

-- each position that was drawn is stored or held
pub reached_counts : {I : Type 0} (s : State I) → IsReached s → stored_count s.history + held_count s.held ≡ s.next
reached_counts s reached = (is_sound s reached).counts

pub reached_bound : {I : Type 0} (s : State I) → IsReached s → s.next ≤ s.limit
reached_bound s reached = (is_sound s reached).bound

pub reached_length : {I : Type 0} (s : State I) → IsReached s → length s.history ≤ s.next
reached_length s reached =
    let r = is_sound s reached in
    let le : length s.history ≤ stored_count s.history = filled_length s.history r.filled in
    omega (arith, r.counts)

-- the front of a reached state ends before the first block that is held
free_to_le : (n : ℕ) (held : List (Option Block)) → free_to n held ≤ n
free_to_le n [] = omega arith
free_to_le n (None ∷ held) = free_to_le n held
free_to_le n (Some b ∷ held) = let le : free_to (min n (b.first - 1)) held ≤ min n (b.first - 1) = free_to_le (min n (b.first - 1)) held in omega arith

free_to_below : (n : ℕ) (held : List (Option Block)) (k : ℕ) (b : Block) → get_or held k None ≡ Some b → free_to n held ≤ b.first - 1
free_to_below n [] k b e = absurd (cc)
free_to_below n (o ∷ held) zero b e =
    let le : free_to (before_block n o) held ≤ before_block n o = free_to_le (before_block n o) held in
    let is : before_block n o ≡ min n (b.first - 1) = ap (before_block n) e in
    omega arith
free_to_below n (o ∷ held) (suc k) b e = free_to_below (before_block n o) held k b e

free_to_is : (n : ℕ) (held : List (Option Block)) → (free_to n held ≡ n) ⊎ ((k : ℕ) × (b : Block) × (get_or held k None ≡ Some b) × (free_to n held ≡ b.first - 1))
free_to_is n [] = inl refl
free_to_is n (None ∷ held) = elim (free_to_is n held) [ inl e ↦ inl e | inr f ↦ inr (suc f.0, f.1, f.2, f.3) ]
free_to_is n (Some b ∷ held) = elim (free_to_is (min n (b.first - 1)) held) [
  | inl e ↦ elim (cases_lt n (b.first - 1)) [
    | inl lt ↦ inl (omega arith)
    | inr ge ↦ inr (zero, b, refl, omega arith)
  ]
  | inr f ↦ inr (suc f.0, f.1, f.2, f.3)
]

pub reached_front : {I : Type 0} (s : State I) → IsReached s → IsFront s.history (free_to s.next s.held)
reached_front s reached =
    let r = is_sound s reached in
    let top : free_to s.next s.held ≤ s.next = free_to_le s.next s.held in record {
      stored = λ p pos le. elim (r.complete p pos (omega arith)) [
        | inl is ↦ is
        | inr f ↦
            let under : free_to s.next s.held ≤ f.1.first - 1 = free_to_below s.next s.held f.0 f.1 f.2 in
            let some = r.held f.0 f.1 f.2 in
            absurd (omega (arith, f.3, some.0))
      ];
      greatest = λ g all. elim (cases_lt (free_to s.next s.held) g) [
        | inl above ↦ elim (free_to_is s.next s.held) [
          | inl e ↦ let last = r.within g (all g (omega arith) (omega arith)) in absurd (omega (arith, last.1))
          | inr f ↦
              let some = r.held f.0 f.1 f.2 in
              let is : free_to s.next s.held ≡ f.1.first - 1 = f.3 in
              absurd (false≢true (sym (r.apart f.0 f.1 f.1.first f.2 (omega arith) (omega (arith, some.1))) ∙ all f.1.first (omega (arith, some.0)) (omega (arith, some.0))))
        ]
        | inr le ↦ le
      ];
    }

-- the front law
pub covers_no_unfinished_write : {I : Type 0} → CoversNoUnfinishedWrite I
covers_no_unfinished_write writers limit steps s front run is =
    let r = is_sound s (ran s writers limit steps run) in (
      is.stored,
      λ k b held. elim (cases_lt front b.first) [
        | inl lt ↦ lt
        | inr ge ↦
            let some = r.held k b held in
            absurd (false≢true (sym (r.apart k b b.first held (omega arith) (omega (arith, some.1))) ∙ is.stored b.first some.0 ge))
      ],
    )

same_taken : {I : Type 0} (s t u : State I) (step : Step I) → Takes s step t → Takes s step u → t ≡ u
same_taken s t u (Draw writer count) a b = a.3 ∙ sym b.3
same_taken s t u (Store writer items) a b =
    let one : a.1.0 ≡ b.1.0 = same_Some a.1.0 b.1.0 (sym a.1.1 ∙ b.1.1) in
    a.1.3 ∙ ap (λ x. stored s writer x.first items) one ∙ sym b.1.3

-- a run in two parts; its first part ends in one state
run_parts : {I : Type 0} (s t u : State I) (steps more : List (Step I)) → Runs s steps t → Runs s (steps ++ more) u → Runs t more u
run_parts s t u [] more run longer = subst (λ x. Runs x more u) run longer
run_parts s t u (step ∷ steps) more run longer =
    let one : longer.0 ≡ run.0 = same_taken s longer.0 run.0 step longer.1 run.1 in
    run_parts run.0 t u steps more run.2 (subst (λ x. Runs x (steps ++ more) u) one longer.2)

begins_taken : {I : Type 0} (s t : State I) (step : Step I) → Takes s step t → Begins s.history t.history
begins_taken s t (Draw writer count) take = subst (λ x. Begins s.history x.history) (sym take.3) (begins_self s.history)
begins_taken s t (Store writer items) take = subst (λ x. Begins s.history x.history) (sym take.1.3) (_, refl)

pub begins_run : {I : Type 0} (s t : State I) (steps : List (Step I)) → Runs s steps t → Begins s.history t.history
begins_run s t [] run = subst (λ x. Begins s.history x.history) run (begins_self s.history)
begins_run s t (step ∷ steps) run = begins_trans s.history run.0.history t.history (begins_taken s run.0 step run.1) (begins_run run.0 t steps run.2)

none_before : {I : Type 0} (s : State I) → IsReached s → (p : ℕ) → p ≤ 0 → item_at s.history p ≡ None
none_before s reached p le =
    no_item s.history p (false_from_ne_true (is_stored s.history p) (λ t. let in_range = (is_sound s reached).within p t in omega (arith, in_range.0)))

pub never_falls : {I : Type 0} → NeverFalls I
never_falls writers limit steps more s t front later run longer is after =
    let b = begins_run s t more (run_parts (start writers limit) s t steps more run longer) in (
      front_below s.history b.0 front later is (subst (λ h. IsFront h later) b.1 after),
      λ p le. elim (cases_lt 0 p) [
        | inl pos ↦ ap (λ h. item_at h p) b.1 ∙ item_kept s.history b.0 p (is.stored p pos le)
        | inr none ↦ none_before t (ran t writers limit (steps ++ more) longer) p none ∙ sym (none_before s (ran s writers limit steps run) p none)
      ],
    )
