-- Copies: what is due of each after a reply or a page.
use Rattle.std.proofs.Common.{◌≡◌, ℕ, ◌<◌, ◌≤◌, Bool, true, false, ◌&&◌, ◌||◌, nat_lt, nat_le, List, ◌++◌, map, Option, Some, None, refl, ap, sym, ◌∙◌, subst, inl, inr, arith, lt-ltb, le-leb, eqb-true}
use Rattle.std.proofs.lemmas.Bool.{cases_Bool, and_from, or_cases, false≢true, both_ways, true_from_ne_false}
use Rattle.std.specs.List.{list_any, AllByRecursion, Contains}
use Rattle.std.proofs.lemmas.List.Folds.{list_any-append}
use Rattle.mx_window.specs.Windows.{between}
use Rattle.mx_window.proofs.Each.{AllByRecursion-map, AllByRecursion-weaker, AllByRecursion-both, AllByRecursion-at, list_any-none, list_any-map, list_any-same, filter-none}
use Rattle.mx_window.proofs.Intervals.{between-inner}
use Rattle.mx_window.proofs.Sections.{list_any-filter}
use Rattle.mx_folding.specs.Rooms.{Room, IsRoom}
use Rattle.mx_folding.specs.Redactions.{is_some_of, is_named, is_redacted, shown, redact_by}
use Rattle.mx_folding.specs.Agreement.{IsCopy, IsDue}
use Rattle.mx_folding.proofs.Redacting.{shown-at, redact_by-names}

pub copy_at : {E K : Type 0} (r : Room E K) (es : List E) (c : E) → IsRoom r es → (copy : IsCopy r es c) → r.at c ≡ r.at copy.event
copy_at r es c room copy = elim copy.copied [ inl a ↦ ap r.at a | inr a ↦ ap r.at a ∙ room.red_at copy.event ]

copy_names : {E K : Type 0} (r : Room E K) (es : List E) (c : E) → IsRoom r es → (copy : IsCopy r es c) → r.names c ≡ r.names copy.event
copy_names r es c room copy = elim copy.copied [ inl a ↦ ap r.names a | inr a ↦ ap r.names a ∙ room.red_names copy.event ]

copy_red : {E K : Type 0} (r : Room E K) (es : List E) (c : E) → IsRoom r es → (copy : IsCopy r es c) → r.red c ≡ r.red copy.event
copy_red r es c room copy = elim copy.copied [ inl a ↦ ap r.red a | inr a ↦ ap r.red a ∙ room.red_red copy.event ]

some_of : (o : Option ℕ) (p : ℕ) → is_some_of o p ≡ true → ◌≡◌ {A = Option ℕ} o (Some p)
some_of None p h = absurd (false≢true h)
some_of (Some n) p h = ap Some (eqb-true n p h)

-- whom a redaction among such copies names is redacted by the front
pub named_redacted : {E K : Type 0} (r : Room E K) (es : List E) (front : ℕ) (v : E) (cs : List E) → IsRoom r es
    → AllByRecursion (λ c. IsCopy r es c × (r.at c ≤ front)) cs
    → is_named r cs (r.at v) ≡ true → is_redacted r es front v ≡ true
named_redacted r es front v cs room copies named = true_from_ne_false (is_redacted r es front v) (λ none.
    let each : AllByRecursion (λ w. (nat_lt (r.at v) (r.at w) && nat_le (r.at w) front) ≡ true → is_some_of (r.names w) (r.at v) ≡ false) es =
    filter-none (λ w. is_some_of (r.names w) (r.at v)) (λ w. nat_lt (r.at v) (r.at w) && nat_le (r.at w) front) es none in
    let apart : AllByRecursion (λ c. is_some_of (r.names c) (r.at v) ≡ false) cs =
    AllByRecursion-weaker (λ c. IsCopy r es c × (r.at c ≤ front)) (λ c. is_some_of (r.names c) (r.at v) ≡ false) (λ c h. unnamed c h.0 h.1 each) cs copies in
    both_ways (is_named r cs (r.at v)) (list_any-none (λ c. is_some_of (r.names c) (r.at v)) cs apart) named) where
      unnamed : (c : _) (copy : IsCopy r es c) → r.at c ≤ front
          → AllByRecursion (λ w. (nat_lt (r.at v) (r.at w) && nat_le (r.at w) front) ≡ true → is_some_of (r.names w) (r.at v) ≡ false) es
          → is_some_of (r.names c) (r.at v) ≡ false
      unnamed c copy upto each =
          let same : r.names c ≡ r.names copy.event = copy_names r es c room copy in
          let there : r.at c ≡ r.at copy.event = copy_at r es c room copy in
          ap (λ o. is_some_of o (r.at v)) same ∙ elim (cases_Bool (is_some_of (r.names copy.event) (r.at v))) [
            | inr no_name ↦ no_name
            | inl names ↦
                let later : r.at v < r.at copy.event =
                AllByRecursion-at (λ e. (p : ℕ) → r.names e ≡ Some p
                → p < r.at e) es copy.event room.earlier copy.listed (r.at v) (some_of (r.names copy.event) (r.at v) names) in
                AllByRecursion-at (λ w. (nat_lt (r.at v) (r.at w) && nat_le (r.at w) front) ≡ true
                → is_some_of (r.names w) (r.at v) ≡ false) es copy.event each copy.listed
                (and_from (nat_lt (r.at v) (r.at copy.event)) (nat_le (r.at copy.event) front) (lt-ltb (r.at v) (r.at copy.event) later)
                (le-leb (r.at copy.event) front (omega (arith, there, upto))))
          ]

-- what isn't redacted by a later front isn't redacted by an earlier one
pub unredacted_before : {E K : Type 0} (r : Room E K) (es : List E) (front later : ℕ) (v : E) → front ≤ later
    → is_redacted r es later v ≡ false → is_redacted r es front v ≡ false
unredacted_before r es front later v up none =
    ap (list_any (λ w. is_some_of (r.names w) (r.at v))) (sym (between-inner r.at (r.at v) front (r.at v) later es (omega arith) up))
    ∙ list_any-filter (λ w. is_some_of (r.names w) (r.at v)) (λ w. nat_lt (r.at v) (r.at w) && nat_le (r.at w) front) (between r.at (r.at v) later es) none

-- a later front asks no more of a copy
pub due_later : {E K : Type 0} (r : Room E K) (es : List E) (front later : ℕ) (named : ℕ → Bool) (c : E)
    → front ≤ later → IsDue r es front named c → IsDue r es later named c
due_later r es front later named c up due = record {
  copy = due.copy;
  redacted = due.redacted;
  plain = λ none. due.plain (unredacted_before r es front later due.copy.event up none);
}

-- a copy as it is sent at t, in a room where whom the timeline names is redacted by t
pub due_new : {E K : Type 0} (r : Room E K) (es : List E) (t front : ℕ) (named : ℕ → Bool) (v : E) → t ≤ front
    → Contains es v → (named (r.at v) ≡ true → is_redacted r es t v ≡ true)
    → IsDue r es front named (shown r es t v)
due_new r es t front named v up in' early = record {
  copy = record { event = v; listed = in'; copied = elim (cases_Bool (is_redacted r es t v)) [ inl a ↦ inr (rw a refl) | inr a ↦ inl (rw a refl) ] };
  redacted = λ is. let a : is_redacted r es t v ≡ true = early is in rw a refl;
  plain = λ none. let a : is_redacted r es t v ≡ false = unredacted_before r es t front v up none in rw a refl;
}

-- a copy after the redactions among new events
pub due_redact : {E K : Type 0} (r : Room E K) (es by : List E) (front : ℕ) (named named' : ℕ → Bool) (c : E)
    → IsRoom r es → AllByRecursion (λ c. IsCopy r es c × (r.at c ≤ front)) by
    → ((p : ℕ) → named' p ≡ (named p || is_named r by p)) → IsDue r es front named c → IsDue r es front named' (redact_by r by c)
due_redact r es by front named named' c room copies joined due =
    let there : r.at c ≡ r.at due.copy.event = copy_at r es c room due.copy in
    elim (cases_Bool (is_named r by (r.at c))) [
      | inl a ↦ rw a (record {
        copy = record { event = due.copy.event; listed = due.copy.listed; copied = inr (copy_red r es c room due.copy) };
        redacted = λ is. copy_red r es c room due.copy;
        plain = λ none. absurd (both_ways (is_redacted r es front due.copy.event) none
            (named_redacted r es front due.copy.event by room copies (ap (is_named r by) (sym there) ∙ a)));
      })
      | inr a ↦ rw a (record {
        copy = due.copy;
        redacted = λ is. due.redacted (named_before (r.at due.copy.event) (ap (is_named r by) (sym there) ∙ a) is);
        plain = due.plain;
      })
    ] where
      named_before : (p : ℕ) → is_named r by p ≡ false → named' p ≡ true → named p ≡ true
      named_before p none is =
          elim (or_cases (named p) (is_named r by p) (sym (joined p) ∙ is)) [ inl a ↦ a | inr b ↦ absurd (both_ways (is_named r by p) none b) ]

-- events of the list as they are sent at t are copies of it
pub sent_copies : {E K : Type 0} (r : Room E K) (es : List E) (t front : ℕ) (xs : List E) → IsRoom r es
    → AllByRecursion (λ v. Contains es v) xs → AllByRecursion (λ v. r.at v ≤ front) xs
    → AllByRecursion (λ c. IsCopy r es c × (r.at c ≤ front)) (map (shown r es t) xs)
sent_copies r es t front xs room in' upto =
    AllByRecursion-map (λ c. IsCopy r es c × (r.at c ≤ front)) (shown r es t) xs
    (AllByRecursion-weaker (λ v. Contains es v × (r.at v ≤ front)) (λ v. IsCopy r es (shown r es t v) × (r.at (shown r es t v) ≤ front))
    (λ v h. (
      (due_new r es t t (λ p. false) v (omega arith) h.0 (λ is. absurd (false≢true is))).copy,
      subst
          (λ x. x ≤ front) (sym (shown-at r es room t v)) h.1,
    ))
    xs (AllByRecursion-both (λ v. Contains es v) (λ v. r.at v ≤ front) xs in' upto))

pub sent_due : {E K : Type 0} (r : Room E K) (es : List E) (t front : ℕ) (named : ℕ → Bool) (xs : List E) → t ≤ front → AllByRecursion (λ v. Contains es v) xs
    → ((v : E) → named (r.at v) ≡ true → is_redacted r es t v ≡ true)
    → AllByRecursion (IsDue r es front named) (map (shown r es t) xs)
sent_due r es t front named xs up in' early =
    AllByRecursion-map (IsDue r es front named) (shown r es t) xs
    (AllByRecursion-weaker (λ v. Contains es v) (λ v. IsDue r es front named (shown r es t v))
    (λ v h. due_new r es t front named v up h (early v)) xs in')

pub is_named-append : {E K : Type 0} (r : Room E K) (xs ys : List E) (p : ℕ) → is_named r (xs ++ ys) p ≡ (is_named r xs p || is_named r ys p)
is_named-append r xs ys p = list_any-append (λ e. is_some_of (r.names e) p) xs ys

pub is_named-redact : {E K : Type 0} (r : Room E K) (es by xs : List E) (p : ℕ) → IsRoom r es → is_named r (map (redact_by r by) xs) p ≡ is_named r xs p
is_named-redact r es by xs p room =
    list_any-map (λ e. is_some_of (r.names e) p) (redact_by r by) xs
    ∙ list_any-same (λ e. is_some_of (r.names (redact_by r by e)) p) (λ e. is_some_of (r.names e) p)
    (λ e. ap (λ o. is_some_of o p) (redact_by-names r es by room e)) xs
