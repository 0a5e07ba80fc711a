-- What is stored in a run is orderly.
use Rattle.std.proofs.Common.{◌≡◌, ◌≢◌, ℕ, ◌+◌, ◌-◌, ◌<◌, ◌≤◌, true, false, List, [], ◌∷◌, ◌++◌, Option, Some, None, length, refl, sym, ap, ◌∙◌, subst, inl, inr, arith}
use Rattle.std.proofs.lemmas.Bool.{cases_eq, false≢true, false_from_ne_true, or_cases}
use Rattle.std.proofs.lemmas.Option.{none-some}
use Rattle.std.proofs.Props.{props}
use Rattle.std.specs.Option.{is_some, option_or}
use Rattle.mx_core.specs.declared.history.Stored.{Stored}
use Rattle.mx_core.specs.declared.machine.Block.{Block}
use Rattle.mx_core.specs.declared.machine.Step.{Step}
use Rattle.mx_core.specs.declared.machine.Step.TheVariants.{Draw, Store}
use Rattle.mx_core.specs.History.{item_of, item_at, is_stored, own, Begins}
use Rattle.mx_core.specs.Moves.{Takes}
use Rattle.mx_core.specs.Orderly.{AreApart, Rise, IsOrderly, RunsAreOrderly, top}
use Rattle.mx_core.specs.Runs.{Runs, IsReached}
use Rattle.mx_core.specs.State.{State, start, block_of, drawn, stored}
use Rattle.mx_core.proofs.Blocks.{block_at-start}
use Rattle.mx_core.proofs.Histories.{is_stored-append, item_of_range, stored_still}
use Rattle.mx_core.proofs.Owns.{own-append, own-here, own-else}
use Rattle.mx_core.proofs.Reached.{sound_taken}
use Rattle.mx_core.proofs.Sound.{IsSound, sound_start, block_cases}

-- ---- one store more, and fewer

apart_more : {I : Type 0} (h : List (Stored I)) (x : Stored I) → AreApart h → ((p : ℕ) → is_some (item_of x p) ≡ true → is_stored h p ≡ false) → AreApart (h ++ x ∷ [])
apart_more [] x apart new = (λ p is. refl, tt)
apart_more {I = I} (s ∷ h) x apart new = (
  λ p is. false_from_ne_true (is_stored (h ++ x ∷ []) p) (λ there. elim (or_cases (is_stored h p) (is_stored (x ∷ []) p) (sym (is_stored-append h (x ∷ []) p) ∙ there)) [
    | inl old ↦ false≢true (sym (apart.0 p is) ∙ old)
    | inr last ↦ false≢true (sym (new p (one p (item_of x p) last)) ∙ first p (item_of s p) is)
  ]),
  apart_more h x apart.1 (λ p is. false_from_ne_true (is_stored h p) (λ there. false≢true (sym (new p is) ∙ later p (item_of s p) there))),
) where
  one : (p : ℕ) (o : Option I) → is_some (option_or o None) ≡ true → is_some o ≡ true
  one p None h = h
  one p (Some y) h = refl

  first : (p : ℕ) (o : Option I) → is_some o ≡ true → is_some (option_or o (item_at h p)) ≡ true
  first p None is = absurd (false≢true is)
  first p (Some y) is = refl

  later : (p : ℕ) (o : Option I) → is_stored h p ≡ true → is_some (option_or o (item_at h p)) ≡ true
  later p None is = is
  later p (Some y) is = refl

apart_less : {I : Type 0} (h more : List (Stored I)) → AreApart (h ++ more) → AreApart h
apart_less [] more apart = tt
apart_less (s ∷ h) more apart = (
  λ p is. false_from_ne_true (is_stored h p) (λ there. false≢true (sym (apart.0 p is) ∙ stored_still h more p there)),
  apart_less h more apart.1,
)

rise_more : {I : Type 0} (above : ℕ) (ss : List (Stored I)) (x : Stored I) → Rise above ss → top above ss < x.first → Rise above (ss ++ x ∷ [])
rise_more above [] x rise low = (low, tt)
rise_more above (s ∷ ss) x rise low = (rise.0, rise_more (s.first + length s.items - 1) ss x rise.1 low)

rise_less : {I : Type 0} (above : ℕ) (ss more : List (Stored I)) → Rise above (ss ++ more) → Rise above ss
rise_less above [] more rise = tt
rise_less above (s ∷ ss) more rise = (rise.0, rise_less (s.first + length s.items - 1) ss more rise.1)

top_more : {I : Type 0} (above : ℕ) (ss : List (Stored I)) (x : Stored I) → top above (ss ++ x ∷ []) ≡ x.first + length x.items - 1
top_more above [] x = refl
top_more above (s ∷ ss) x = top_more (s.first + length s.items - 1) ss x

-- ---- the run

record IsRising {I : Type 0} (s : State I) : Type 0 where
  apart : AreApart s.history
  rise : (k : ℕ) → Rise 0 (own s.history k)
  within : (k : ℕ) → top 0 (own s.history k) ≤ s.next
  below : (k : ℕ) (b : Block) → block_of s k ≡ Some b → top 0 (own s.history k) < b.first

rising_start : {I : Type 0} (writers limit : ℕ) → IsRising {I = I} (start writers limit)
rising_start writers limit = record {
  apart = tt;
  rise = λ k. tt;
  within = λ k. omega arith;
  below = λ k b e. absurd (none-some b (sym (block_at-start writers k) ∙ e));
}

module _ {I : Type 0} (s : State I) (r : IsSound s) (up : IsRising s) (k : ℕ) (lt : k < length s.held) where
  rising_drawn : (count : ℕ) → IsRising (drawn s k count)
  rising_drawn count = record {
    apart = up.apart;
    rise = up.rise;
    within = λ j. let le : top 0 (own s.history j) ≤ s.next = up.within j in omega (arith, le);
    below = λ j b e. elim (block_cases s.held k j _ b lt e) [
      | inl here ↦
          let le : top 0 (own s.history j) ≤ s.next = up.within j in
          let first : s.next + 1 ≡ b.first = ap (λ (o : Option Block). first_of o) here.1 in
          omega (arith, le, first)
      | inr else ↦ up.below j b else.1
    ];
  } where
    first_of : Option Block → ℕ
    first_of None = 0
    first_of (Some b) = b.first

  module _ (b : Block) (items : List I) (is : block_of s k ≡ Some b) (count : b.count ≡ length items) where
    abbrev x : Stored I
    x = record { writer = k; first = b.first; items = items }

    -- what a writer has stored then
    own_then : (P : List (Stored I) → Type 0) → P (own s.history k ++ x ∷ []) → ((j : ℕ) → k ≢ j → P (own s.history j)) → (j : ℕ) → P (own (s.history ++ x ∷ []) j)
    own_then P here else j = elim (cases_eq k j) [
      | inl same ↦ subst (λ i. P (own (s.history ++ x ∷ []) i)) same (subst P (sym (own-here s.history x)) here)
      | inr other ↦ subst P (sym (own-else s.history x j other)) (else j other)
    ]

    rising_stored : IsRising (stored s k b.first items)
    rising_stored =
        let old = r.held k b is in
        let end : top 0 (own s.history k ++ x ∷ []) ≡ b.first + length items - 1 = top_more 0 (own s.history k) x in
        record {
          apart = apart_more s.history x up.apart (λ p some. let range = item_of_range x p some in r.apart k b p is range.0 (omega (arith, count, range.1)));
          rise = own_then (Rise 0) (rise_more 0 (own s.history k) x (up.rise k) (up.below k b is)) (λ j other. up.rise j);
          within = own_then (λ ss. top 0 ss ≤ s.next) (omega (arith, end, count, old.2)) (λ j other. up.within j);
          below = λ j c e. elim (block_cases s.held k j None c lt e) [
            | inl here ↦ absurd (none-some c here.1)
            | inr else ↦ subst (λ ss. top 0 ss < c.first) (sym (own-else s.history x j (λ same. else.0 (sym same)))) (up.below j c else.1)
          ];
        }

rising_taken : {I : Type 0} (s t : State I) (step : Step I) → Takes s step t → IsSound s → IsRising s → IsRising t
rising_taken s t (Draw writer count) take r up = subst IsRising (sym take.3) (rising_drawn s r up writer take.0.0 count)
rising_taken s t (Store writer items) take r up = let b = take.1.0 in subst IsRising (sym take.1.3) (rising_stored s r up writer take.0 b items take.1.1 take.1.2)

rising_run : {I : Type 0} (s t : State I) (steps : List (Step I)) → Runs s steps t → IsSound s → IsRising s → IsRising t
rising_run s t [] run r up = subst IsRising run up
rising_run s t (step ∷ steps) run r up = rising_run run.0 t steps run.2 (sound_taken s run.0 step run.1 r) (rising_taken s run.0 step run.1 r up)

pub begins_orderly : {I : Type 0} (h longer : List (Stored I)) → Begins h longer → IsOrderly longer → IsOrderly h
begins_orderly h longer b is = record {
  apart = apart_less h b.0 (subst AreApart b.1 is.apart);
  rise = λ k. rise_less 0 (own h k) (own b.0 k) (subst (Rise 0) (own-append h b.0 k) (subst (λ l. Rise 0 (own l k)) b.1 (is.rise k)));
}

reached_rising : {I : Type 0} (s : State I) → IsReached s → IsRising s
reached_rising s reached =
    rising_run (start reached.writers reached.limit) s reached.steps reached.run (sound_start reached.writers reached.limit) (rising_start reached.writers reached.limit)

-- a held block lies above its writer's stores
pub reached_above : {I : Type 0} (s : State I) → IsReached s → (k : ℕ) (b : Block) → block_of s k ≡ Some b → top 0 (own s.history k) < b.first
reached_above s reached = (reached_rising s reached).below

-- one store more
pub orderly_more : {I : Type 0} (h : List (Stored I)) (x : Stored I) → IsOrderly h → ((p : ℕ) → x.first ≤ p → p < x.first + length x.items → is_stored h p ≡ false) → top 0 (own h x.writer) < x.first
    → IsOrderly (h ++ x ∷ [])
orderly_more h x is apart above = record {
  apart = apart_more h x is.apart (λ p some. let range = item_of_range x p some in apart p range.0 range.1);
  rise = λ j. elim (cases_eq x.writer j) [
    | inl same ↦ subst (λ i. Rise 0 (own (h ++ x ∷ []) i)) same (subst (Rise 0) (sym (own-here h x)) (rise_more 0 (own h x.writer) x (is.rise x.writer) above))
    | inr other ↦ subst (Rise 0) (sym (own-else h x j other)) (is.rise j)
  ];
}

pub runs_are_orderly : {I : Type 0} → RunsAreOrderly I
runs_are_orderly s reached h b = let up = reached_rising s reached in begins_orderly h s.history b (record { apart = up.apart; rise = up.rise })

-- ---- orderly is a fact

AreApart-prop : {I : Type 0} (h : List (Stored I)) → IsProp (AreApart h)
AreApart-prop [] x y = refl
AreApart-prop (s ∷ h) x y =
    let first : IsProp ((p : ℕ) → is_some (item_of s p) ≡ true → is_stored h p ≡ false) = hlevel props in
    λ i. (first x.0 y.0 i, AreApart-prop h x.1 y.1 i)

Rise-prop : {I : Type 0} (above : ℕ) (ss : List (Stored I)) → IsProp (Rise above ss)
Rise-prop above [] x y = refl
Rise-prop above (s ∷ ss) x y =
    let first : IsProp (above < s.first) = hlevel props in
    λ i. (first x.0 y.0 i, Rise-prop (s.first + length s.items - 1) ss x.1 y.1 i)

pub IsOrderly-prop : {I : Type 0} (h : List (Stored I)) → IsProp (IsOrderly h)
IsOrderly-prop h x y = λ i. record { apart = AreApart-prop h x.apart y.apart i; rise = λ k. Rise-prop 0 (own h k) (x.rise k) (y.rise k) i }
