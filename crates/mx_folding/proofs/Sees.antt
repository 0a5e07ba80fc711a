-- What a joined user may see stays visible.
use Rattle.std.proofs.Common.{◌≡◌, ℕ, ◌-◌, ◌<◌, ◌≤◌, Bool, true, false, not, ◌&&◌, ◌||◌, nat_lt, nat_le, ◌⊎◌, List, ◌++◌, Option, Some, None, refl, ap, sym, ◌∙◌, inl, inr, arith}
use Rattle.std.proofs.lemmas.Bool.{and_parts, and_from, or_left, both_ways, not-true, not_from_false, true_from_ne_false}
use Rattle.std.specs.List.{list_any}
use Rattle.std.proofs.lemmas.List.Folds.{list_any-append}
use Rattle.std.specs.Option.{option_or, option_and_then}
use Rattle.mx_window.specs.Windows.{Ascends, between}
use Rattle.mx_window.specs.Lasts.{last_of}
use Rattle.mx_window.proofs.Each.{AllByRecursion-weaker, AllByRecursion-none}
use Rattle.mx_window.proofs.Intervals.{between-split, between-inner, between-within}
use Rattle.mx_window.proofs.Lasts.{last_of-append, last_of-some, last_of-split}
use Rattle.mx_window.proofs.Sections.{list_any-filter}
use Rattle.mx_folding.specs.Visible.{Membership, HistoryVisibility, WorldReadable, SharedSince, InvitedSince, JoinedSince, Viewer, is_join, is_invite, membership_after, visibility_after, is_allowed, allows_after, joins_later, is_visible, joined_at, stayed_joined, StaysVisible}

allowed_joined : (h : HistoryVisibility) (own : Option Membership) (later : Bool) → is_join own ≡ true → is_allowed h own later ≡ true
allowed_joined WorldReadable own later j = refl
allowed_joined SharedSince own later j = or_left (is_join own) later j
allowed_joined InvitedSince own later j = or_left (is_join own) (is_invite own) j
allowed_joined JoinedSince own later j = j

-- where the last own event passes a test that is made of being own and joining, an own event joins
joining : {E : Type 0} (v : Viewer E) (es : List E) (e : E) → ◌≡◌ {A = Option E} (last_of v.is_own es) (Some e) → is_join (v.membership e)
    ≡ true → list_any (λ e. v.is_own e && is_join (v.membership e)) es ≡ true
joining v es e is j = true_from_ne_false (list_any (λ e. v.is_own e && is_join (v.membership e)) es) (λ none.
    let facts =
    last_of-some (λ e. (v.is_own e && is_join (v.membership e))
    ≡ false) v.is_own es e (AllByRecursion-none (λ e. v.is_own e && is_join (v.membership e)) es none) is in
    both_ways (v.is_own e && is_join (v.membership e)) facts.1 (and_from (v.is_own e) (is_join (v.membership e)) facts.0 j))

given_cases : {E : Type 0} (v : Viewer E) (ys : List E) (a b : Option E) → ◌≡◌ {A = Option E} (last_of v.is_own ys) a
    → is_join (option_and_then v.membership (option_or a b)) ≡ true
    → (list_any (λ e. v.is_own e && is_join (v.membership e)) ys ≡ true) ⊎ (is_join (option_and_then v.membership b) ≡ true)
given_cases v ys (Some e) b is j = inl (joining v ys e is j)
given_cases v ys None b is j = inr j

given_append : {E : Type 0} (v : Viewer E) (xs ys : List E) → is_join (membership_after v (xs ++ ys)) ≡ true
    → (list_any (λ e. v.is_own e && is_join (v.membership e)) ys ≡ true) ⊎ (is_join (membership_after v xs) ≡ true)
given_append v xs ys j =
    given_cases v ys (last_of v.is_own ys) (last_of v.is_own xs) refl
    (ap (λ o. is_join (option_and_then v.membership o)) (sym (last_of-append v.is_own xs ys)) ∙ j)

-- an event of a window is visible at a later front as at the one where the user is joined
visible_alike : {E : Type 0} (v : Viewer E) (es : List E) → Ascends v.at 0 es → (s t : ℕ) → s ≤ t → joined_at v es s
    ≡ true → (e : E) → v.at e ≤ s → is_visible v es t e ≡ is_visible v es s e
visible_alike v es up s t le joined e upto =
    let p : ℕ = v.at e in
    let seen : Bool → Bool =
    λ later. allows_after v later (between v.at 0 p es) || ((v.is_own e || v.is_setting e) && allows_after v later (between v.at 0 (p - 1) es)) in
    elim (given_append v (between v.at 0 p es) (between v.at p s es)
    (ap (λ l. is_join (membership_after v l)) (sym (between-split v.at 0 p s 0 es up (omega arith) upto)) ∙ joined)) [
      | inl later ↦
          let later_t : joins_later v es p t ≡ true =
          ap (list_any (λ e. v.is_own e && is_join (v.membership e))) (between-split v.at p s t 0 es up upto le)
          ∙ list_any-append (λ e. v.is_own e && is_join (v.membership e)) (between v.at p s es) (between v.at s t es)
          ∙ or_left (joins_later v es p s) (list_any (λ e. v.is_own e && is_join (v.membership e)) (between v.at s t es)) later in
          ap seen (later_t ∙ sym later)
      | inr own ↦
          let always : (later : Bool) → seen later ≡ true =
          λ later. or_left (allows_after v later (between v.at 0 p es)) ((v.is_own e || v.is_setting e)
          && allows_after v later (between v.at 0 (p - 1) es))
          (allowed_joined (visibility_after v (between v.at 0 p es)) (membership_after v (between v.at 0 p es)) later own) in
          always (joins_later v es p t) ∙ sym (always (joins_later v es p s))
    ]

pub stays_visible : {E : Type 0} → StaysVisible E
stays_visible v es up s t le joined =
    AllByRecursion-weaker (λ e. (0 < v.at e) × (v.at e ≤ s)) (λ e. is_visible v es t e
    ≡ is_visible v es s e) (λ e h. visible_alike v es up s t le joined e h.1) (between v.at 0 s es) (between-within v.at 0 s es)

-- who stayed joined to a later position stayed joined to an earlier one
pub stayed_joined_less : {E : Type 0} (v : Viewer E) (es : List E) (b s t : ℕ) → b ≤ s → s ≤ t → stayed_joined v es b t ≡ true → stayed_joined v es b s ≡ true
stayed_joined_less v es b s t low high h =
    let parts = and_parts (joined_at v es b) (not (list_any (λ e. v.is_own e && not (is_join (v.membership e))) (between v.at b t es))) h in
    let none : list_any (λ e. v.is_own e && not (is_join (v.membership e))) (between v.at b t es) ≡ false =
    not-true (list_any (λ e. v.is_own e && not (is_join (v.membership e))) (between v.at b t es)) parts.1 in
    let fewer : list_any (λ e. v.is_own e && not (is_join (v.membership e))) (between v.at b s es) ≡ false =
    ap (list_any (λ e. v.is_own e && not (is_join (v.membership e)))) (sym (between-inner v.at b s b t es (omega arith) high))
    ∙ list_any-filter (λ e. v.is_own e && not (is_join (v.membership e))) (λ e. nat_lt b (v.at e) && nat_le (v.at e) s) (between v.at b t es) none in
    and_from (joined_at v es b) (not (list_any (λ e. v.is_own e && not (is_join (v.membership e))) (between v.at b s es))) parts.0
    (not_from_false (list_any (λ e. v.is_own e && not (is_join (v.membership e))) (between v.at b s es)) fewer)

-- who stayed joined to a position is joined there
pub stayed_joined_at : {E : Type 0} (v : Viewer E) (es : List E) (b s : ℕ) → Ascends v.at 0 es → b ≤ s → stayed_joined v es b s ≡ true → joined_at v es s ≡ true
stayed_joined_at v es b s up low h =
    let parts = and_parts (joined_at v es b) (not (list_any (λ e. v.is_own e && not (is_join (v.membership e))) (between v.at b s es))) h in
    let none : list_any (λ e. v.is_own e && not (is_join (v.membership e))) (between v.at b s es) ≡ false =
    not-true (list_any (λ e. v.is_own e && not (is_join (v.membership e))) (between v.at b s es)) parts.1 in
    ap (λ o. is_join (option_and_then v.membership o)) (last_of-split v.at v.is_own 0 b s 0 es up (omega arith) low)
    ∙ still (last_of v.is_own (between v.at b s es)) (last_of v.is_own (between v.at 0 b es)) refl none parts.0 where
      still : (a o : Option _) → ◌≡◌ {A = Option _} (last_of v.is_own (between v.at b s es)) a
          → list_any (λ e. v.is_own e && not (is_join (v.membership e))) (between v.at b s es) ≡ false
          → is_join (option_and_then v.membership o) ≡ true → is_join (option_and_then v.membership (option_or a o)) ≡ true
      still None o is none j = j
      still (Some e) o is none j = true_from_ne_false (is_join (v.membership e)) (λ away.
          let facts =
          last_of-some (λ e. (v.is_own e && not (is_join (v.membership e)))
          ≡ false) v.is_own (between v.at b s es) e (AllByRecursion-none (λ e. v.is_own e
          && not (is_join (v.membership e))) (between v.at b s es) none) is in
          both_ways (v.is_own e
          && not (is_join (v.membership e))) facts.1
          (and_from (v.is_own e) (not (is_join (v.membership e))) facts.0 (not_from_false (is_join (v.membership e)) away)))
