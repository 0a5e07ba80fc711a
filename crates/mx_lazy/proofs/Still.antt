-- The summary stays the same where no member event came.
use Rattle.std.proofs.Common.{◌≡◌, ℕ, ◌≤◌, Bool, true, false, cond, ◌&&◌, ◌||◌, List, [], ◌∷◌, ◌++◌, filter, Option, Some, None, is_some, option_map, refl, ap, ap₂, sym, ◌∙◌, inl, inr, arith, append-nil}
use Rattle.std.proofs.lemmas.Bool.{cases_Bool, and_parts, and_from}
use Rattle.std.proofs.lemmas.List.Elements.{filter-append}
use Rattle.std.proofs.lemmas.Slice.Eq.{bytes_eq-Decides}
use Rattle.std.specs.List.{list_any, AllByRecursion}
use Rattle.std.specs.Str.{bytes_eq}
use Rattle.mx_window.specs.Lasts.{current}
use Rattle.mx_window.specs.Windows.{Ascends, between}
use Rattle.mx_window.proofs.Each.{AllByRecursion-none}
use Rattle.mx_window.proofs.Intervals.{between-split}
use Rattle.mx_event.specs.Kinds.{is_of, member_type}
use Rattle.mx_event.specs.Shown.{position_of}
use Rattle.mx_event.specs.declared.event.Event.{Event}
use Rattle.mx_folding.specs.Rooms.{key_is}
use Rattle.mx_view.specs.Rooms.{Key, key_of, same_key}
use Rattle.mx_lazy.specs.Members.{is_member, members_at}
use Rattle.mx_lazy.specs.Stays.{SummaryStays}
use Rattle.mx_lazy.specs.Summaries.{summary_of}

filter-no : (test : Event → Bool) (es : List Event) → AllByRecursion (λ e. test e ≡ false) es → filter test es ≡ []
filter-no test [] all = refl
filter-no test (e ∷ es) all = let f : test e ≡ false = all.0 in rw f (filter-no test es all.1)

-- a filtered list that goes on with nothing that passes
filter_still : (test : Event → Bool) (i j : ℕ) (es : List Event) → Ascends position_of 0 es → i ≤ j → list_any test (between position_of i j es) ≡ false
    → filter test (between position_of 0 j es) ≡ filter test (between position_of 0 i es)
filter_still test i j es up h none =
    ap (filter test) (between-split position_of 0 i j 0 es up (omega arith) h)
    ∙ filter-append test (between position_of 0 i es) (between position_of i j es)
    ∙ ap (λ l. filter test (between position_of 0 i es) ++ l) (filter-no test (between position_of i j es) (AllByRecursion-none test (between position_of i j es) none))
    ∙ append-nil (filter test (between position_of 0 i es))

any_filter : {E : Type 0} (same test : E → Bool) → ((d : E) → same d ≡ true → test d ≡ true) → (es : List E) → list_any same (filter test es) ≡ list_any same es
any_filter same test too [] = refl
any_filter same test too (d ∷ es) =
    let rest = any_filter same test too es in
    elim (cases_Bool (test d)) [
      | inl a ↦ rw a (ap (λ b. same d || b) rest)
      | inr a ↦ rw a (rest ∙ sym (ap (λ b. b || list_any same es) (off (same d) (test d) a (too d))))
    ] where
      off : (s t : Bool) → t ≡ false → (s ≡ true → t ≡ true) → s ≡ false
      off true t h k = absurd (differ t h (k refl)) where
        differ : (t : Bool) → t ≡ false → t ≡ true → ⊥
        differ true h k = absurd cc
        differ false h k = absurd cc
      off false t h k = refl

-- a test that goes with the key: what is current of the items that pass is what passes of the current ones
current_filter : {E : Type 0} (same : E → E → Bool) (test : E → Bool) → ((e d : E) → test e ≡ true → same e d ≡ true → test d ≡ true) → (es : List E)
    → current same (filter test es) ≡ filter test (current same es)
current_filter same test too [] = refl
current_filter same test too (e ∷ es) =
    let rest = current_filter same test too es in
    elim (cases_Bool (test e)) [
      | inl a ↦ rw a (ap₂ (λ b l. cond b l (e ∷ l)) (any_filter (same e) test (λ d s. too e d a s) es) rest ∙ kept (list_any (same e) es) a)
      | inr a ↦ rw a (rest ∙ dropped (list_any (same e) es) a)
    ] where
      kept : (b : Bool) → test e ≡ true → cond b (filter test (current same es)) (e ∷ filter test (current same es)) ≡ filter test (cond b (current same es) (e ∷ current same es))
      kept true t = refl
      kept false t = rw t refl

      dropped : (b : Bool) → test e ≡ false → filter test (current same es) ≡ filter test (cond b (current same es) (e ∷ current same es))
      dropped true t = refl
      dropped false t = rw t refl

abbrev as_key : List ℕ → Option (List ℕ) → Option Key
as_key kind o = option_map (λ key. (kind, key)) o

abbrev same_state : Event → Event → Bool
same_state e d = key_is (λ k. key_is (same_key k) (key_of d)) (key_of e)

abbrev has_state_key : Event → Bool
has_state_key e = is_some (key_of e)

key_some : (kind : List ℕ) (o : Option (List ℕ)) → is_some (as_key kind o) ≡ is_some o
key_some kind None = refl
key_some kind (Some key) = refl

twice : (test : Event → Bool) (cs : List Event) → filter test (filter has_state_key cs) ≡ filter (λ e. test e && is_some e.state_key) cs
twice test [] = refl
twice test (e ∷ cs) =
    ap (λ b. filter test (cond b (e ∷ filter has_state_key cs) (filter has_state_key cs))) (key_some e.kind e.state_key)
    ∙ by_tests (test e) refl (is_some e.state_key) (twice test cs) where
      by_tests : (a : Bool) → test e ≡ a → (b : Bool) → filter test (filter has_state_key cs) ≡ filter (λ d. test d && is_some d.state_key) cs
          → filter test (cond b (e ∷ filter has_state_key cs) (filter has_state_key cs)) ≡ cond (a && b) (e ∷ filter (λ d. test d && is_some d.state_key) cs) (filter (λ d. test d && is_some d.state_key) cs)
      by_tests true is true rest = rw is (ap (λ l. e ∷ l) rest)
      by_tests false is true rest = rw is rest
      by_tests true is false rest = rest
      by_tests false is false rest = rest

-- what has the key of a member event is a member event
member_too : (e d : Event) → is_member e ≡ true → same_state e d ≡ true → is_member d ≡ true
member_too e d m s = by_keys e.state_key refl d.state_key refl where
  by_keys : (o : Option (List ℕ)) → e.state_key ≡ o → (q : Option (List ℕ)) → d.state_key ≡ q → is_member d ≡ true
  by_keys None is q at = absurd (differ (sym (ap is_some is) ∙ (and_parts (is_of member_type e) (is_some e.state_key) m).1)) where
    differ : ◌≡◌ {A = Bool} false true → ⊥
    differ h = absurd cc
  by_keys (Some key) is None at =
      absurd (differ (sym (ap₂ (λ (a b : Option (List ℕ)). key_is (λ k. key_is (same_key k) (as_key d.kind b)) (as_key e.kind a)) is at) ∙ s)) where
        differ : ◌≡◌ {A = Bool} false true → ⊥
        differ h = absurd cc
  by_keys (Some key) is (Some own) at =
      let same : (bytes_eq d.kind e.kind && bytes_eq own key) ≡ true = sym (ap₂ (λ (a b : Option (List ℕ)). key_is (λ k. key_is (same_key k) (as_key d.kind b)) (as_key e.kind a)) is at) ∙ s in
      let kind : d.kind ≡ e.kind = (bytes_eq-Decides d.kind e.kind).0 (and_parts (bytes_eq d.kind e.kind) (bytes_eq own key) same).0 in
      and_from (is_of member_type d) (is_some d.state_key)
      (ap (λ k. bytes_eq k member_type) kind ∙ (and_parts (is_of member_type e) (is_some e.state_key) m).0)
      (ap is_some at)

-- the member events of the state are what is current of the member events
members_current : (es : List Event) → filter (is_of member_type) (filter has_state_key (current same_state es)) ≡ current same_state (filter is_member es)
members_current es = twice (is_of member_type) (current same_state es) ∙ sym (current_filter same_state is_member member_too es)

pub summary_still : SummaryStays
summary_still user es i j up h none = ap (summary_of user) (at_position j ∙ ap (current same_state) (filter_still is_member i j es up h none) ∙ sym (at_position i)) where
  at_position : (p : ℕ) → members_at es p ≡ current same_state (filter is_member (between position_of 0 p es))
  at_position p = members_current (between position_of 0 p es)
