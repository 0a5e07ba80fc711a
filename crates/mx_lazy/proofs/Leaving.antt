-- The steps of the walk to the member event by which a user leaves.
use Rattle.std.proofs.Common.{◌≡◌, ℕ, ◌<◌, ◌≤◌, ◌-◌, Bool, true, false, not, nat_lt, List, Option, Some, None, refl, sym, ap, ◌∙◌, arith}
use Rattle.std.proofs.lemmas.Bool.{le-ltb}
use Rattle.std.specs.List.{list_any}
use Rattle.mx_window.specs.Lasts.{last_at, last_of}
use Rattle.mx_window.specs.Windows.{Ascends, between}
use Rattle.mx_window.proofs.Intervals.{between-within}
use Rattle.mx_window.proofs.Lasts.{last_of-some}
use Rattle.mx_event.specs.Shown.{position_of}
use Rattle.mx_event.specs.declared.event.Event.{Event}
use Rattle.mx_folding.specs.Visible.{is_join}
use Rattle.mx_view.specs.Readings.{is_own, membership_of}
use Rattle.mx_visible.proofs.Joined.{any_after, back, no_own, own_joins}
use Rattle.mx_lazy.specs.Stays.{leaves}

-- no event up to a position lies after it
none_above : (base last : ℕ) (test : Event → Bool) (es : List Event) → last ≤ base → nat_lt base (last_at position_of 0 (last_of test (between position_of 0 last es))) ≡ false
none_above base last test es low = by_last (last_of test (between position_of 0 last es)) refl where
  by_last : (o : Option Event) → last_of test (between position_of 0 last es) ≡ o → nat_lt base (last_at position_of 0 o) ≡ false
  by_last None is = le-ltb base 0 (omega arith)
  by_last (Some e) is =
      let within : (0 < e.id.at) × (e.id.at ≤ last) = (last_of-some (λ (d : Event). (0 < d.id.at) × (d.id.at ≤ last)) test (between position_of 0 last es) e (between-within position_of 0 last es) is).1 in
      let most : e.id.at ≤ last = within.1 in
      le-ltb base e.id.at (omega (arith, most, low))

module _ (user : List ℕ) (base since last : ℕ) (es : List Event) (up : Ascends position_of 0 es)
    (passed : last_of (leaves user) (between position_of 0 last es) ≡ last_of (leaves user) (between position_of 0 since es)) where
  answer : (o : Option Event) → last_of (leaves user) (between position_of 0 last es) ≡ o → nat_lt base (last_at position_of 0 o) ≡ list_any (leaves user) (between position_of base since es)
  answer o is = ap (λ (x : Option Event). nat_lt base (last_at position_of 0 x)) (sym is ∙ passed) ∙ sym (any_after position_of (leaves user) 0 base since es up)

  pub found : (e : Event) → last_of (is_own user) (between position_of 0 last es) ≡ Some e → not (is_join (membership_of e)) ≡ true
      → nat_lt base e.id.at ≡ list_any (leaves user) (between position_of base since es)
  found e own joined = answer (Some e) (own_joins position_of (is_own user) (λ (d : Event). not (is_join (membership_of d))) (between position_of 0 last es) e own joined)

  pub none : last_of (is_own user) (between position_of 0 last es) ≡ None → false ≡ list_any (leaves user) (between position_of base since es)
  none own =
      sym (le-ltb base 0 (omega arith))
      ∙ answer None (no_own position_of (is_own user) (λ (d : Event). not (is_join (membership_of d))) (between position_of 0 last es) own)

  pub ended : last ≤ base → false ≡ list_any (leaves user) (between position_of base since es)
  ended low = sym (none_above base last (leaves user) es low) ∙ answer (last_of (leaves user) (between position_of 0 last es)) refl

  pub one_back : (e : Event) → last_of (is_own user) (between position_of 0 last es) ≡ Some e → not (is_join (membership_of e)) ≡ false
      → last_of (leaves user) (between position_of 0 (e.id.at - 1) es) ≡ last_of (leaves user) (between position_of 0 since es)
  one_back e own joined = back position_of (is_own user) (λ (d : Event). not (is_join (membership_of d))) 0 last es e up own joined ∙ passed
