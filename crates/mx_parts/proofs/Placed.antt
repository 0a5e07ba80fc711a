-- Events that stand at consecutive positions are found at them.
use Rattle.std.proofs.Common.{◌≡◌, ℕ, suc, ◌+◌, true, List, [], ◌∷◌, ◌++◌, length, nat_eq, Some, slice_get, refl, sym, ap, subst, ◌∙◌, arith}
use Rattle.std.proofs.lemmas.Bool.{and_parts, eqb-true}
use Rattle.std.specs.List.{AllByRecursion}
use Rattle.mx_window.specs.Windows.{stand_from}
use Rattle.mx_event.specs.Shown.{position_of}
use Rattle.mx_event.specs.declared.event.Event.{Event}
use Rattle.mx_snapshot.specs.Looks.{at_position}

found_at : (before es : List Event) (e : Event) → e.id.at ≡ length before + 1 → at_position (before ++ e ∷ es) e.id.at ≡ Some e
found_at before es e is = ap (at_position (before ++ e ∷ es)) (is ∙ one_more (length before)) ∙ at_end before where
  one_more : (n : ℕ) → n + 1 ≡ suc n
  one_more n = omega arith

  at_end : (before : List Event) → slice_get (before ++ e ∷ es) (length before) ≡ Some e
  at_end [] = refl
  at_end (d ∷ before) = at_end before

found_after : (before es : List Event) → stand_from position_of (length before + 1) es ≡ true → AllByRecursion (λ (e : Event). at_position (before ++ es) e.id.at ≡ Some e) es
found_after before [] placed = tt
found_after before (e ∷ es) placed =
    let parts = and_parts (nat_eq e.id.at (length before + 1)) (stand_from position_of (length before + 1 + 1) es) placed in
    let here : e.id.at ≡ length before + 1 = eqb-true e.id.at (length before + 1) parts.0 in
    let longer : length before + 1 + 1 ≡ length (before ++ e ∷ []) + 1 = ap (λ n. n + 1) (sym (pushed before)) in
    let rest = found_after (before ++ e ∷ []) es (subst (λ n. stand_from position_of n es ≡ true) longer parts.1) in
    (found_at before es e here, subst (λ l. AllByRecursion (λ (d : Event). at_position l d.id.at ≡ Some d) es) (joined before) rest) where
      pushed : (before : List Event) → length (before ++ e ∷ []) ≡ length before + 1
      pushed [] = refl
      pushed (d ∷ before) = ap suc (pushed before) ∙ omega arith

      joined : (before : List Event) → (before ++ e ∷ []) ++ es ≡ before ++ e ∷ es
      joined [] = refl
      joined (d ∷ before) = ap (λ l. d ∷ l) (joined before)

pub all_found : (es : List Event) → stand_from position_of 1 es ≡ true → AllByRecursion (λ (e : Event). at_position es e.id.at ≡ Some e) es
all_found es placed = found_after [] es placed
