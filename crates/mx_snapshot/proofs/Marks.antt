-- The first redaction of a position, as the index has it.
use Rattle.std.proofs.Common.{◌≡◌, ℕ, zero, suc, ◌≤◌, ◌<◌, Bool, true, false, cond, ◌&&◌, ◌==◌, List, [], ◌∷◌, ◌++◌, Option, Some, None, nat_lt, nat_le, length, take, drop, slice_index_or, refl, sym, subst, ap, ap₂, ◌∙◌, arith}
use Rattle.std.proofs.lemmas.Bool.{and_parts, eqb-true, le-leb, lt-leb, ltb-true, ne_eqb}
use Rattle.std.proofs.lemmas.List.{take_at}
use Rattle.std.proofs.lemmas.Option.{none-some, same_Some}
use Rattle.std.specs.List.{AllByRecursion}
use Rattle.mx_window.specs.Lasts.{keep_if}
use Rattle.mx_window.specs.Windows.{stand_from}
use Rattle.mx_ids.specs.declared.event_id.EventId.{EventId}
use Rattle.mx_event.specs.Shown.{is_at, named_id, names, position_of}
use Rattle.mx_event.specs.declared.event.Event.{Event}
use Rattle.mx_snapshot.specs.Events.{first_or, earlier, first_redaction, position_or_0, redacts, target}
use Rattle.mx_snapshot.specs.Looks.{at_position}
use Rattle.mx_snapshot.proofs.Found.{Found, all_found}

above : (p : ℕ) (e : Event) → redacts p e ≡ true → p < e.id.at
above p e is = ltb-true p e.id.at (and_parts (names e p) (nat_lt p e.id.at) is).1

kept : (n : ℕ) (b : Bool) (by : ℕ) → 0 < n → first_or n b by ≡ n
kept n b by some = ap (λ c. cond (c && b) by n) (ne_eqb n 0 (λ is. omega (arith, some, is)))

-- one event more
pub first_more : (es : List Event) (e : Event) (p : ℕ) → position_or_0 (first_redaction (es ++ e ∷ []) p) ≡ first_or (position_or_0 (first_redaction es p)) (redacts p e) e.id.at
first_more [] e p = by_test (redacts p e) where
  by_test : (b : Bool) → position_or_0 (cond b (Some e) None) ≡ cond b e.id.at 0
  by_test true = refl
  by_test false = refl
first_more (d ∷ es) e p = by_test (redacts p d) refl (first_more es e p) where
  by_test : (b : Bool) → redacts p d ≡ b → position_or_0 (first_redaction (es ++ e ∷ []) p) ≡ first_or (position_or_0 (first_redaction es p)) (redacts p e) e.id.at
      → position_or_0 (cond b (Some d) (first_redaction (es ++ e ∷ []) p)) ≡ first_or (position_or_0 (cond b (Some d) (first_redaction es p))) (redacts p e) e.id.at
  by_test true is rest = let first : p < d.id.at = above p d is in sym (kept d.id.at (redacts p e) e.id.at (omega (arith, first)))
  by_test false is rest = rest

-- what is found at the position that the index has
pub first_kept : (es : List Event) (p by last : ℕ) → stand_from position_of 1 es ≡ true → by ≡ position_or_0 (first_redaction es p) → by ≤ last
    → at_position es by ≡ keep_if (λ (e : Event). nat_le e.id.at last) (first_redaction es p)
first_kept es p by last placed is within = kept_in es (all_found position_of es placed) is where
  kept_in : (xs : List Event) → AllByRecursion (Found position_of es) xs → by ≡ position_or_0 (first_redaction xs p) → at_position es by ≡ keep_if (λ (e : Event). nat_le e.id.at last) (first_redaction xs p)
  kept_in [] found is = ap (at_position es) is
  kept_in (x ∷ xs) found is = by_test (redacts p x) is (kept_in xs found.1) where
    by_test : (b : Bool) → by ≡ position_or_0 (cond b (Some x) (first_redaction xs p))
        → (by ≡ position_or_0 (first_redaction xs p) → at_position es by ≡ keep_if (λ (e : Event). nat_le e.id.at last) (first_redaction xs p)) → at_position es by ≡ keep_if (λ (e : Event). nat_le e.id.at last) (cond b (Some x) (first_redaction xs p))
    by_test true is rest = ap (at_position es) is ∙ found.0 ∙ ap (λ b. cond b (Some x) None) (sym (le-leb x.id.at last (subst (λ n. n ≤ last) is within)))
    by_test false is rest = rest is

-- the redaction that the index has lies later, or there is none
pub first_later : (es : List Event) (p by last : ℕ) → by ≡ position_or_0 (first_redaction es p) → last < by → keep_if (λ (e : Event). nat_le e.id.at last) (first_redaction es p) ≡ None
first_later es p by last is later = by_first (first_redaction es p) is where
  by_first : (o : Option Event) → by ≡ position_or_0 o → keep_if (λ (e : Event). nat_le e.id.at last) o ≡ None
  by_first None is = refl
  by_first (Some e) is = ap (λ b. cond b (Some e) None) (lt-leb e.id.at last (subst (λ n. last < n) is later))

-- the redaction names the position that is its target
target_is : (e : Event) (at p : ℕ) → target e ≡ Some at → (at == p) ≡ redacts p e
target_is e at p is = by_named (named_id e) is where
  by_place : (id : EventId) (b : Bool) → nat_lt id.at e.id.at ≡ true → (id.at == p) ≡ b → b ≡ (b && nat_lt p e.id.at)
  by_place id true less here = sym (ap (λ k. nat_lt k e.id.at) (sym (eqb-true id.at p here)) ∙ less)
  by_place id false less here = refl

  by_less : (id : EventId) (b : Bool) → nat_lt id.at e.id.at ≡ b → cond b (Some id.at) None ≡ Some at → (at == p) ≡ ((id.at == p) && nat_lt p e.id.at)
  by_less id true less is = ap (λ n. n == p) (sym (same_Some id.at at is)) ∙ by_place id (id.at == p) less refl
  by_less id false less is = absurd (none-some at is)

  by_named : (o : Option EventId) → earlier e.id.at o ≡ Some at → (at == p) ≡ (is_at p o && nat_lt p e.id.at)
  by_named None is = absurd (none-some at is)
  by_named (Some id) is = by_less id (nat_lt id.at e.id.at) refl is

-- a position more, of which nothing is noted
pushed : (ps : List ℕ) (p : ℕ) → slice_index_or (ps ++ 0 ∷ []) p 0 ≡ slice_index_or ps p 0
pushed [] zero = refl
pushed [] (suc p) = refl
pushed (x ∷ ps) zero = refl
pushed (x ∷ ps) (suc p) = pushed ps p

pub noted : (ps qs part new : List ℕ) (n at : ℕ) (e : Event) → qs ≡ ps ++ 0 ∷ [] → n ≡ length qs → part ≡ qs → target e ≡ Some at → length new ≡ length part
    → ((p : ℕ) → slice_index_or new p 0 ≡ first_or (slice_index_or part p 0) (at == p) e.id.at)
    → (p : ℕ) → slice_index_or (take n (new ++ drop (length new) qs)) p 0 ≡ first_or (slice_index_or ps p 0) (redacts p e) e.id.at
noted ps qs part new n at e longer long same is marks first p =
    ap (λ l. slice_index_or l p 0) (take_at new (drop (length new) qs) n (marks ∙ ap length same ∙ sym long)) ∙ first p
    ∙ ap₂ (λ k b. first_or k b e.id.at) (ap (λ l. slice_index_or l p 0) (same ∙ longer) ∙ pushed ps p) (target_is e at p is)
