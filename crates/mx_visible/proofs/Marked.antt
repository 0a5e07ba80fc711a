-- Between two marks of visibility the user sees all of a room's events or none: the walk to the last one that it sees.
use Rattle.std.proofs.Common.{◌≡◌, ℕ, ◌<◌, ◌≤◌, ◌-◌, Bool, true, false, cond, max, nat_lt, nat_le, ◌||◌, ◌&&◌, List, [], ◌∷◌, ◌++◌, Option, Some, None, refl, ap, ap₂, sym, subst, ◌∙◌, inl, inr, arith, append_assoc}
use Rattle.std.proofs.lemmas.Bool.{cases_lt, or_parts}
use Rattle.std.proofs.lemmas.List.{append_cancel_left}
use Rattle.std.specs.List.{list_any, AllByRecursion}
use Rattle.std.specs.Option.{option_map, option_and_then, option_or, unwrap_or}
use Rattle.mx_window.specs.Windows.{Ascends, between}
use Rattle.mx_window.specs.Lasts.{last_at, last_of}
use Rattle.mx_window.proofs.Each.{AllByRecursion-append, AllByRecursion-both, AllByRecursion-filter, AllByRecursion-none, AllByRecursion-passed, AllByRecursion-weaker, list_any-none}
use Rattle.mx_window.proofs.Intervals.{between-empty, between-inner, between-split, between-within}
use Rattle.mx_window.proofs.Lasts.{last_of-none, last_of-some, last_of-split, none-last_of}
use Rattle.mx_window.proofs.Sections.{Ascends-after, after-last}
use Rattle.mx_ids.specs.declared.room_id.RoomId.{RoomId}
use Rattle.mx_event.specs.Lawful.{of_room, same_room}
use Rattle.mx_event.specs.Shown.{position_of}
use Rattle.mx_event.specs.declared.event.Event.{Event}
use Rattle.mx_event.proofs.Lawfully.{same_is}
use Rattle.mx_folding.specs.Visible.{Viewer, SharedSince, allows_after, is_allowed, is_join, is_visible, joins_later}
use Rattle.mx_view.specs.Readings.{viewer_of}
use Rattle.mx_visible.specs.Walks.{hidden_after, is_mark, last_mark}
use Rattle.mx_visible.proofs.Joined.{no_own, own_joins}
use Rattle.mx_visible.proofs.Parted.{cut_at}
use Rattle.mx_visible.proofs.Walked.{window_before, window_to}

never : {A B : Type 0} (x : A) → ◌≡◌ {A = Option A} None (Some x) → B
never x h = absurd cc

or_no : (a : Bool) → (a || false) ≡ a
or_no true = refl
or_no false = refl

any-append : {A : Type 0} (test : A → Bool) (xs ys : List A) → list_any test xs ≡ false → list_any test (xs ++ ys) ≡ list_any test ys
any-append test [] ys none = refl
any-append test (x ∷ xs) ys none =
    let parts = or_parts (test x) (list_any test xs) none in
    ap (λ b. b || list_any test (xs ++ ys)) parts.0 ∙ any-append test xs ys parts.1

-- the last of all ends the list
last_ends : {A : Type 0} (xs : List A) (e : A) → last_of (λ x. true) xs ≡ Some e → (ys : List A) × (xs ≡ ys ++ e ∷ [])
last_ends [] e is = never e is
last_ends {A = A} (x ∷ xs) e is = by_last (last_of (λ x. true) xs) refl (λ k. last_ends xs e k) is where
  by_last : (o : Option A) → last_of (λ x. true) xs ≡ o → (o ≡ Some e → (ys : List A) × (xs ≡ ys ++ e ∷ [])) → option_or o (Some x) ≡ Some e → (ys : List A) × (x ∷ xs ≡ ys ++ e ∷ [])
  by_last (Some f) is_f rest eq = let r = rest eq in (x ∷ r.0, ap (λ l. x ∷ l) r.1)
  by_last None is_f rest eq =
      let same : x ≡ e = cc (eq) in
      ([], ap₂ (λ a l. a ∷ l) same (empty xs (none-last_of (λ x. true) xs is_f))) where
        empty : (zs : List A) → list_any (λ x. true) zs ≡ false → zs ≡ []
        empty [] none = refl
        empty (z ∷ zs) none = absurd cc

-- the later of the last items that pass two tests is the last that passes either
module _ {E : Type 0} (at : E → ℕ) (a b : E → Bool) where
  upto : (o : Option E) (t : Bool) (x : E) → (last_at at 0 o ≤ last_at at 0 (option_or o (cond t (Some x) None))) × (last_at at 0 (option_or o (cond t (Some x) None)) ≤ max (last_at at 0 o) (at x))
  upto (Some y) t x = (omega arith, omega arith)
  upto None true x = (omega arith, omega arith)
  upto None false x = (omega arith, omega arith)

  none_of : (xs : List E) → last_of (λ e. a e || b e) xs ≡ None → (last_of a xs ≡ None) × (last_of b xs ≡ None)
  none_of xs none =
      let all = AllByRecursion-none (λ e. a e || b e) xs (none-last_of (λ e. a e || b e) xs none) in (
        last_of-none a xs (list_any-none a xs (AllByRecursion-weaker (λ e. (a e || b e) ≡ false) (λ e. a e ≡ false) (λ e h. (or_parts (a e) (b e) h).0) xs all)),
        last_of-none b xs (list_any-none b xs (AllByRecursion-weaker (λ e. (a e || b e) ≡ false) (λ e. b e ≡ false) (λ e h. (or_parts (a e) (b e) h).1) xs all)),
      )

  first_of : (s t : Bool) (x : E) → max (last_at at 0 (cond s (Some x) None)) (last_at at 0 (cond t (Some x) None)) ≡ last_at at 0 (cond (s || t) (Some x) None)
  first_of true true x = omega arith
  first_of true false x = omega arith
  first_of false true x = omega arith
  first_of false false x = omega arith

  pub later_of : (low : ℕ) (xs : List E) → Ascends at low xs → max (last_at at 0 (last_of a xs)) (last_at at 0 (last_of b xs)) ≡ last_at at 0 (last_of (λ e. a e || b e) xs)
  later_of low [] up = omega arith
  later_of low (x ∷ xs) up = by_last (last_of (λ e. a e || b e) xs) refl (later_of (at x) xs up.1) where
    by_last : (o : Option E) → last_of (λ e. a e || b e) xs ≡ o → max (last_at at 0 (last_of a xs)) (last_at at 0 (last_of b xs)) ≡ last_at at 0 (last_of (λ e. a e || b e) xs)
        → max (last_at at 0 (option_or (last_of a xs) (cond (a x) (Some x) None))) (last_at at 0 (option_or (last_of b xs) (cond (b x) (Some x) None)))
        ≡ last_at at 0 (option_or (last_of (λ e. a e || b e) xs) (cond (a x || b x) (Some x) None))
    by_last (Some g) is rest =
        let above : at x < at g = (last_of-some (λ e. at x < at e) (λ e. a e || b e) xs g (Ascends-after at (at x) xs up.1) is).1 in
        let same : max (last_at at 0 (last_of a xs)) (last_at at 0 (last_of b xs)) ≡ at g = rest ∙ ap (last_at at 0) is in
        let more_a = upto (last_of a xs) (a x) x in
        let more_b = upto (last_of b xs) (b x) x in
        let whole : max (last_at at 0 (option_or (last_of a xs) (cond (a x) (Some x) None))) (last_at at 0 (option_or (last_of b xs) (cond (b x) (Some x) None))) ≡ at g =
        omega (arith, above, same, more_a.0, more_a.1, more_b.0, more_b.1) in
        whole ∙ sym (ap (λ o. last_at at 0 (option_or o (cond (a x || b x) (Some x) None))) is)
    by_last None is rest =
        let none = none_of xs is in
        ap₂ (λ (o p : Option E). max (last_at at 0 (option_or o (cond (a x) (Some x) None))) (last_at at 0 (option_or p (cond (b x) (Some x) None)))) none.0 none.1
        ∙ first_of (a x) (b x) x
        ∙ sym (ap (λ o. last_at at 0 (option_or o (cond (a x || b x) (Some x) None))) is)

module _ {E : Type 0} (v : Viewer E) (es : List E) (up : Ascends v.at 0 es) (front : ℕ) where
  abbrev marks : E → Bool
  marks e = v.is_own e || v.is_setting e

  abbrev seen : E → Bool
  seen e = is_visible v es front e

  -- where none passes between two positions, the last up to both is the same
  still : (test : E → Bool) (q p : ℕ) → q ≤ p → AllByRecursion (λ e. test e ≡ false) (between v.at q p es) → last_of test (between v.at 0 q es) ≡ last_of test (between v.at 0 p es)
  still test q p h none =
      sym (last_of-split v.at test 0 q p 0 es up (omega arith) h
      ∙ ap (λ o. option_or o (last_of test (between v.at 0 q es))) (last_of-none test (between v.at q p es) (list_any-none test (between v.at q p es) none)))

  later_still : (q p : ℕ) → q ≤ p → AllByRecursion (λ e. (v.is_own e && is_join (v.membership e)) ≡ false) (between v.at q p es) → joins_later v es q front ≡ joins_later v es p front
  later_still q p h none = elim (cases_lt p front) [
    | inl c ↦
        ap (list_any (λ e. v.is_own e && is_join (v.membership e))) (between-split v.at q p front 0 es up h (omega (arith, c)))
        ∙ any-append (λ e. v.is_own e && is_join (v.membership e)) (between v.at q p es) (between v.at p front es) (list_any-none (λ e. v.is_own e && is_join (v.membership e)) (between v.at q p es) none)
    | inr c ↦
        ap (list_any (λ e. v.is_own e && is_join (v.membership e))) (sym (between-inner v.at q front q p es (omega arith) c))
        ∙ list_any-none (λ e. v.is_own e && is_join (v.membership e)) (between v.at q front (between v.at q p es))
        (AllByRecursion-filter (λ e. (v.is_own e && is_join (v.membership e)) ≡ false) _ (between v.at q p es) none)
        ∙ sym (ap (list_any (λ e. v.is_own e && is_join (v.membership e))) (between-empty v.at p front es c))
  ]

  abbrev told : ℕ → Bool
  told p = allows_after v (joins_later v es p front) (between v.at 0 p es)

  -- without a mark between two positions the state at both says the same
  told_still : (q p : ℕ) → q ≤ p → AllByRecursion (λ e. marks e ≡ false) (between v.at q p es) → told q ≡ told p
  told_still q p h none =
      let window = between v.at q p es in
      let own = AllByRecursion-weaker (λ e. marks e ≡ false) (λ e. v.is_own e ≡ false) (λ e k. (or_parts (v.is_own e) (v.is_setting e) k).0) window none in
      let setting = AllByRecursion-weaker (λ e. marks e ≡ false) (λ e. v.is_setting e ≡ false) (λ e k. (or_parts (v.is_own e) (v.is_setting e) k).1) window none in
      let joins = AllByRecursion-weaker (λ e. v.is_own e ≡ false) (λ e. (v.is_own e && is_join (v.membership e)) ≡ false) (λ e k. ap (λ b. b && is_join (v.membership e)) k) window own in
      ap₂ (λ s o. is_allowed (unwrap_or (option_map v.setting s) SharedSince) (option_and_then v.membership o) (joins_later v es q front)) (still v.is_setting q p h setting) (still v.is_own q p h own)
      ∙ ap (λ b. allows_after v b (between v.at 0 p es)) (later_still q p h joins)

  -- what lies between marks is seen as the state at the end of the stretch says
  seen_as : (m p : ℕ) (e : E) → m < v.at e → v.at e ≤ p → marks e ≡ false → AllByRecursion (λ d. marks d ≡ false) (between v.at m p es) → seen e ≡ told p
  seen_as m p e after within plain none =
      ap (λ b. told (v.at e) || (b && allows_after v (joins_later v es (v.at e) front) (between v.at 0 (v.at e - 1) es))) plain
      ∙ or_no (told (v.at e))
      ∙ told_still (v.at e) p within
      (subst (AllByRecursion (λ d. marks d ≡ false)) (between-inner v.at (v.at e) p m p es (omega (arith, after)) (omega arith))
      (AllByRecursion-filter (λ d. marks d ≡ false) _ (between v.at m p es) none))

  -- an event that is hidden, and no mark, hides those before it up to the last mark
  all_hidden : (m : ℕ) (e : E) → m < v.at e → marks e ≡ false → AllByRecursion (λ d. marks d ≡ false) (between v.at m (v.at e) es) → seen e ≡ false
      → AllByRecursion (λ d. seen d ≡ false) (between v.at m (v.at e) es)
  all_hidden m e after plain none hidden =
      let here : told (v.at e) ≡ false = sym (seen_as m (v.at e) e after (omega arith) plain none) ∙ hidden in
      AllByRecursion-weaker (λ d. ((m < v.at d) × (v.at d ≤ v.at e)) × (marks d ≡ false)) (λ d. seen d ≡ false)
      (λ d h. seen_as m (v.at e) d h.0.0 h.0.1 h.1 none ∙ here) (between v.at m (v.at e) es)
      (AllByRecursion-both (λ d. (m < v.at d) × (v.at d ≤ v.at e)) (λ d. marks d ≡ false) (between v.at m (v.at e) es) (between-within v.at m (v.at e) es) none)

  -- ---- the walk, back from `end`

  module _ (end : ℕ) (e : E) (is : last_of (λ d. true) (between v.at 0 end es) ≡ Some e) where
    -- the room's list about its last event up to `end`
    parts : (ys rest : List E) × (es ≡ ys ++ e ∷ rest) × (between v.at 0 end es ≡ ys ++ e ∷ [])
    parts =
        let front = last_ends (between v.at 0 end es) e is in
        let cut = cut_at v.at end end es up in
        (front.0, cut.0, cut.1 ∙ ap₂ (λ l k. l ++ (k ++ cut.0)) front.1 (between-empty v.at end end es (omega arith)) ∙ append_assoc front.0 (e ∷ []) cut.0, front.1)

    rises : Ascends v.at 0 (parts.0 ++ e ∷ parts.1)
    rises = subst (Ascends v.at 0) parts.2 up

    pub lies : (0 < v.at e) × (v.at e ≤ end)
    lies = (last_of-some (λ d. (0 < v.at d) × (v.at d ≤ end)) (λ d. true) (between v.at 0 end es) e (between-within v.at 0 end es) is).1

    to_here : between v.at 0 (v.at e) es ≡ parts.0 ++ e ∷ []
    to_here = ap (between v.at 0 (v.at e)) parts.2 ∙ window_to v.at parts.0 e parts.1 rises

    before_here : between v.at 0 (v.at e - 1) es ≡ parts.0
    before_here = ap (between v.at 0 (v.at e - 1)) parts.2 ∙ window_before v.at parts.0 e parts.1 rises

    only : between v.at (v.at e - 1) (v.at e) es ≡ e ∷ []
    only = append_cancel_left parts.0 (between v.at (v.at e - 1) (v.at e) es) (e ∷ [])
        (ap (λ l. l ++ between v.at (v.at e - 1) (v.at e) es) (sym before_here)
        ∙ sym (between-split v.at 0 (v.at e - 1) (v.at e) 0 es up (omega arith) (omega arith)) ∙ to_here)

    same_end : last_of seen (between v.at 0 (v.at e) es) ≡ last_of seen (between v.at 0 end es)
    same_end = ap (last_of seen) (to_here ∙ sym parts.3)

    module _ (hidden : seen e ≡ false) where
      pub one_back : last_of seen (between v.at 0 (v.at e - 1) es) ≡ last_of seen (between v.at 0 end es)
      one_back = still seen (v.at e - 1) (v.at e) (omega arith) (subst (AllByRecursion (λ d. seen d ≡ false)) (sym only) (hidden, tt)) ∙ same_end

      pub to_mark : (m : ℕ) → marks e ≡ false → m ≡ last_at v.at 0 (last_of marks (between v.at 0 (v.at e - 1) es))
          → last_of seen (between v.at 0 m es) ≡ last_of seen (between v.at 0 end es)
      to_mark m plain found =
          let after = after-last v.at marks 0 (v.at e - 1) 0 es up (omega arith) m found in
          let low : 0 < v.at e = lies.0 in
          let within : m ≤ v.at e - 1 = after.1 in
          let none = subst (AllByRecursion (λ d. marks d ≡ false)) (sym (between-split v.at m (v.at e - 1) (v.at e) 0 es up within (omega arith)))
          (AllByRecursion-append (λ d. marks d ≡ false) (between v.at m (v.at e - 1) es) (between v.at (v.at e - 1) (v.at e) es)
          (AllByRecursion-none marks (between v.at m (v.at e - 1) es) after.2) (subst (AllByRecursion (λ d. marks d ≡ false)) (sym only) (plain, tt))) in
          still seen m (v.at e) (omega (arith, within)) (all_hidden m e (omega (arith, within, low)) plain none hidden) ∙ same_end

-- ---- the answer, from a lower end on

-- of what is found by one test, back from `end`, the last that passes another
module _ {E : Type 0} (at : E → ℕ) (own joins : E → Bool) (es : List E) (up : Ascends at 0 es) (low high : ℕ) where
  abbrev test : E → Bool
  test e = own e && joins e

  -- the last in a window, by the last up to its end
  from_low : last_at at low (last_of test (between at low high es)) ≡ max low (last_at at 0 (last_of test (between at 0 high es)))
  from_low = elim (cases_lt high low) [
    | inl c ↦
        ap (λ l. last_at at low (last_of test l)) (between-empty at low high es (omega (arith, c)))
        ∙ (let small = small_top high in omega (arith, small, c))
    | inr c ↦
        by_last (last_of test (between at low high es)) refl
        ∙ ap (λ o. max low (last_at at 0 o)) (sym (last_of-split at test 0 low high 0 es up (omega arith) c))
  ] where
    small_top : (n : ℕ) → last_at at 0 (last_of test (between at 0 n es)) ≤ n
    small_top n = by (last_of test (between at 0 n es)) refl where
      by : (o : Option E) → last_of test (between at 0 n es) ≡ o → last_at at 0 o ≤ n
      by None is = omega arith
      by (Some e) is = (last_of-some (λ d. (0 < at d) × (at d ≤ n)) test (between at 0 n es) e (between-within at 0 n es) is).1.1

    by_last : (o : Option E) → last_of test (between at low high es) ≡ o → last_at at low o ≡ max low (last_at at 0 (option_or o (last_of test (between at 0 low es))))
    by_last None is = let small = small_top low in omega (arith, small)
    by_last (Some e) is =
        let above : low < at e = (last_of-some (λ d. (low < at d) × (at d ≤ high)) test (between at low high es) e (between-within at low high es) is).1.0 in
        omega (arith, above)

  module _ (end : ℕ) (passed : last_of test (between at 0 end es) ≡ last_of test (between at 0 high es)) where
    from_end : last_at at low (last_of test (between at low high es)) ≡ max low (last_at at 0 (last_of test (between at 0 end es)))
    from_end = from_low ∙ ap (λ o. max low (last_at at 0 o)) (sym passed)

    pub found_here : (e : E) → last_of own (between at 0 end es) ≡ Some e → joins e ≡ true → max (at e) low ≡ last_at at low (last_of test (between at low high es))
    found_here e is sees =
        let here : last_of test (between at 0 end es) ≡ Some e = own_joins at own joins (between at 0 end es) e is sees in
        let turned : max (at e) low ≡ max low (at e) = omega arith in
        turned ∙ sym (from_end ∙ ap (λ o. max low (last_at at 0 o)) here)

    pub none_left : last_of own (between at 0 end es) ≡ None → low ≡ last_at at low (last_of test (between at low high es))
    none_left is =
        let zeroed : low ≡ max low 0 = omega arith in
        zeroed ∙ sym (from_end ∙ ap (λ o. max low (last_at at 0 o)) (no_own at own joins (between at 0 end es) is))

    pub ended : end ≤ low → low ≡ last_at at low (last_of test (between at low high es))
    ended upto = sym (from_end ∙ by (last_of test (between at 0 end es)) refl) where
      by : (o : Option E) → last_of test (between at 0 end es) ≡ o → max low (last_at at 0 o) ≡ low
      by None is = omega arith
      by (Some e) is =
          let below : at e ≤ end = (last_of-some (λ d. (0 < at d) × (at d ≤ end)) test (between at 0 end es) e (between-within at 0 end es) is).1.1 in
          omega (arith, below, upto)

-- an event of a room's list is one of the room
pub own_room : (room : RoomId) (es : List Event) (test : Event → Bool) (end : ℕ) (e : Event) → last_of test (between position_of 0 end (of_room room es)) ≡ Some e → e.room ≡ room
own_room room es test end e is =
    same_is e.room room (last_of-some (λ (d : Event). same_room d.room room ≡ true) test (between position_of 0 end (of_room room es)) e
    (AllByRecursion-filter (λ (d : Event). same_room d.room room ≡ true) (λ (d : Event). nat_lt 0 d.id.at && nat_le d.id.at end) (of_room room es) (AllByRecursion-passed (λ (d : Event). same_room d.room room) es)) is).1

module _ (user : List ℕ) (es : List Event) (up : Ascends position_of 0 es) where
  small_mark : (high : ℕ) → last_mark user high es ≤ high
  small_mark high = (after-last position_of (is_mark user) 0 high 0 es up (omega arith) (last_mark user high es) refl).1

  -- the walk goes back
  pub less : (end : ℕ) (e : Event) → last_of (λ d. true) (between position_of 0 end es) ≡ Some e → (next : ℕ) → next ≡ hidden_after user es e → next < end
  less end e is next found = by (is_mark user e) refl where
    by : (b : Bool) → is_mark user e ≡ b → next < end
    by b is_b =
        let within = lies (viewer_of user) es up 0 end e is in
        let low : 0 < e.id.at = within.0 in
        let high : e.id.at ≤ end = within.1 in
        let small : cond b (e.id.at - 1) (last_mark user (e.id.at - 1) es) ≤ e.id.at - 1 = either b in
        let same : next ≡ cond b (e.id.at - 1) (last_mark user (e.id.at - 1) es) = found ∙ ap (λ t. cond t (e.id.at - 1) (last_mark user (e.id.at - 1) es)) is_b in
        omega (arith, low, high, small, same) where
          either : (t : Bool) → cond t (e.id.at - 1) (last_mark user (e.id.at - 1) es) ≤ e.id.at - 1
          either true = omega arith
          either false = small_mark (e.id.at - 1)

  -- what it passes is hidden
  pub is_passed : (front end : ℕ) (e : Event) → last_of (λ d. true) (between position_of 0 end es) ≡ Some e → (next : ℕ) → next ≡ hidden_after user es e → is_visible (viewer_of user) es front e ≡ false
      → last_of (is_visible (viewer_of user) es front) (between position_of 0 next es) ≡ last_of (is_visible (viewer_of user) es front) (between position_of 0 end es)
  is_passed front end e is next found hidden = by (is_mark user e) refl where
    by : (b : Bool) → is_mark user e ≡ b → last_of (is_visible (viewer_of user) es front) (between position_of 0 next es) ≡ last_of (is_visible (viewer_of user) es front) (between position_of 0 end es)
    by true is_b =
        ap (λ n. last_of (is_visible (viewer_of user) es front) (between position_of 0 n es)) (found ∙ ap (λ t. cond t (e.id.at - 1) (last_mark user (e.id.at - 1) es)) is_b)
        ∙ one_back (viewer_of user) es up front end e is hidden
    by false is_b = to_mark (viewer_of user) es up front end e is hidden next is_b (found ∙ ap (λ t. cond t (e.id.at - 1) (last_mark user (e.id.at - 1) es)) is_b)
