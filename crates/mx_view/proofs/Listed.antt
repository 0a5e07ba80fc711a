-- What a valid list has: redactions of earlier events, and the four memberships.
use Rattle.std.proofs.Common.{◌≡◌, ℕ, ◌<◌, ◌≤◌, Bool, true, false, not, ◌&&◌, ◌||◌, cond, List, [], ◌∷◌, ◌++◌, Option, Some, None, is_some, is_none, codes, refl, ap, sym, ◌∙◌, inl, inr, arith}
use Rattle.std.proofs.lemmas.Bool.{cases_Bool, and_parts, cond-false, cond-true}
use Rattle.std.proofs.lemmas.Slice.Eq.{bytes_eq-Decides}
use Rattle.std.specs.List.{AllByRecursion}
use Rattle.std.specs.Option.{option_and_then}
use Rattle.std.specs.Str.{bytes_eq}
use Rattle.mx_window.specs.Windows.{Ascends}
use Rattle.mx_window.proofs.Each.{AllByRecursion-append, AllByRecursion-weaker}
use Rattle.mx_event.specs.Kinds.{create_type, member_type, is_of, is_text}
use Rattle.mx_event.specs.Denied.{denied, rules_for, general_rules, membership_rule, first_broken, breaks_create, breaks_member_form, target}
use Rattle.mx_event.specs.Lawful.{has_target}
use Rattle.mx_event.specs.Shown.{position_of}
use Rattle.mx_event.specs.State.{membership_in}
use Rattle.mx_event.specs.declared.event.Event.{Event}
use Rattle.mx_ids.specs.User.{is_user_id_text}
use Rattle.mx_view.specs.Readings.{membership_as, membership_of, is_own}
use Rattle.mx_view.specs.Readings.{named_at}
use Rattle.mx_event.specs.Valid.{are_valid}
use Rattle.mx_view.proofs.Names.{target_below}

-- each redaction of a valid list names an earlier event
pub all_earlier : (low : ℕ) (before es : List Event) → AllByRecursion (λ (v : Event). v.id.at ≤ low) before
    → Ascends position_of low es → are_valid before es ≡ true
    → AllByRecursion (λ (e : Event). (p : ℕ) → named_at e ≡ Some p → p < e.id.at) es
all_earlier low before [] upto up valid = tt
all_earlier low before (e ∷ es) upto up valid =
    let parts = and_parts (is_none (denied e before) && has_target e before) (are_valid (before ++ e ∷ []) es) valid in
    let own = and_parts (is_none (denied e before)) (has_target e before) parts.0 in
    let above : low < e.id.at = up.0 in (
      λ p is. target_below e e.id.at p before
          (AllByRecursion-weaker (λ (v : Event). v.id.at ≤ low) (λ (v : Event). v.id.at < e.id.at) (λ v h. omega (arith, h, above)) before upto) own.1 is,
      all_earlier e.id.at (before ++ e ∷ []) es
          (AllByRecursion-append (λ (v : Event). v.id.at ≤ e.id.at) before (e ∷ [])
          (AllByRecursion-weaker (λ (v : Event). v.id.at ≤ low) (λ (v : Event). v.id.at ≤ e.id.at) (λ v h. omega (arith, h, above)) before upto)
          (omega arith, tt))
          up.1 parts.1,
    )

four : (o : Option (List ℕ)) → (is_text (codes "join") o || (is_text (codes "invite") o || (is_text (codes "leave") o || is_text (codes "ban") o)))
    ≡ true → is_some (option_and_then membership_as o) ≡ true
four None any = absurd cc
four (Some text) any = elim (cases_Bool (bytes_eq text (codes "join"))) [
  | inl a ↦ rw a refl
  | inr a ↦ elim (cases_Bool (bytes_eq text (codes "invite"))) [
    | inl b ↦ rw (a, b) refl
    | inr b ↦ elim (cases_Bool (bytes_eq text (codes "leave"))) [
      | inl c ↦ rw (a, b, c) refl
      | inr c ↦ elim (cases_Bool (bytes_eq text (codes "ban"))) [
        | inl d ↦ rw (a, b, c, d) refl
        | inr d ↦ absurd cc
      ]
    ]
  ]
]

no_first : (n : ℕ) (b : Bool) (rules : List (ℕ × Bool)) → is_none (first_broken ((n, b) ∷ rules)) ≡ true → (b ≡ false) × (is_none (first_broken rules) ≡ true)
no_first n true rules none = absurd cc
no_first n false rules none = (refl, none)

-- a member event that isn't denied has one of the four memberships
pub member_kind : (e : Event) (before : List Event) → is_of member_type e ≡ true → is_none (denied e before) ≡ true → is_some (membership_of e) ≡ true
member_kind e before own none =
    let kind : e.kind ≡ member_type = (bytes_eq-Decides e.kind member_type).0 own in
    let other : is_of create_type e ≡ false = ap (λ k. bytes_eq k create_type) kind in
    let rules : rules_for e before ≡ (2, breaks_member_form e before) ∷ membership_rule e before ∷ [] =
    cond-false (is_of create_type e) []
    (cond (is_of member_type e) ((2, breaks_member_form e before) ∷ membership_rule e before ∷ []) (general_rules e before)) other
    ∙ cond-true (is_of member_type e) ((2, breaks_member_form e before) ∷ membership_rule e before ∷ []) (general_rules e before) own in
    let second = (no_first 1 (breaks_create e before) (rules_for e before) none).1 in
    let form = (no_first 2 (breaks_member_form e before) (membership_rule e before ∷ []) (ap (λ l. is_none (first_broken l)) (sym rules) ∙ second)).0 in
    four (membership_in e.content) (one_of (not (is_user_id_text (target e))) _ form) where
      one_of : (a b : Bool) → (a || not b) ≡ false → b ≡ true
      one_of a true h = refl
      one_of true false h = absurd cc
      one_of false false h = absurd cc

-- each member event of a user in a valid list has one of the four memberships
pub all_kinds : (user : List ℕ) (before es : List Event) → are_valid before es ≡ true
    → AllByRecursion (λ e. is_own user e ≡ true → is_some (membership_of e) ≡ true) es
all_kinds user before [] valid = tt
all_kinds user before (e ∷ es) valid =
    let parts = and_parts (is_none (denied e before) && has_target e before) (are_valid (before ++ e ∷ []) es) valid in
    let allowed = (and_parts (is_none (denied e before)) (has_target e before) parts.0).0 in
    (λ own. member_kind e before (and_parts (is_of member_type e) (is_text user e.state_key) own).0 allowed, all_kinds user (before ++ e ∷ []) es parts.1)
