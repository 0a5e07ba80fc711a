-- A walk through a stretch of a room tells what the user sees of each event.
use Rattle.std.proofs.Common.{◌≡◌, ℕ, ◌<◌, ◌-◌, Bool, true, false, cond, nat_lt, nat_le, ◌&&◌, ◌||◌, List, [], ◌∷◌, ◌++◌, map, filter, Option, Some, None, refl, ap, sym, ◌∙◌, arith, append-nil, append_assoc, subst, ap₂}
use Rattle.std.proofs.lemmas.Bool.{and_from, lt-ltb, le-leb, lt-leb}
use Rattle.std.proofs.lemmas.List.Elements.{filter-append}
use Rattle.std.specs.List.{AllByRecursion}
use Rattle.std.specs.Option.{option_or}
use Rattle.mx_window.specs.Windows.{Ascends, between}
use Rattle.mx_window.specs.Lasts.{last_of}
use Rattle.mx_window.proofs.Each.{AllByRecursion-weaker}
use Rattle.mx_window.proofs.Lasts.{last_of-append}
use Rattle.mx_window.proofs.Sections.{Ascends-after}
use Rattle.mx_event.specs.Shown.{position_of}
use Rattle.mx_event.specs.declared.event.Event.{Event}
use Rattle.mx_folding.specs.Visible.{is_visible, joins_later}
use Rattle.mx_view.specs.Readings.{is_own, is_setting, viewer_of}
use Rattle.mx_visible.specs.Walks.{IsStanding, allows, allowed_about, joins, last_join, newer, sees, sights, walked}
use Rattle.mx_visible.proofs.Joined.{any_after}
use Rattle.mx_visible.proofs.Parted.{cut_at}

filter-every : {E : Type 0} (test : E → Bool) (es : List E) → AllByRecursion (λ e. test e ≡ true) es → filter test es ≡ es
filter-every test [] all = refl
filter-every test (e ∷ es) all = let t : test e ≡ true = all.0 in rw t (ap (λ l. e ∷ l) (filter-every test es all.1))

filter-no : {E : Type 0} (test : E → Bool) (es : List E) → AllByRecursion (λ e. test e ≡ false) es → filter test es ≡ []
filter-no test [] all = refl
filter-no test (e ∷ es) all = let f : test e ≡ false = all.0 in rw f (filter-no test es all.1)

and_no : (b : Bool) → (b && false) ≡ false
and_no true = refl
and_no false = refl

-- an ascending list about one of its items
pub ascends_about : {E : Type 0} (at : E → ℕ) (low : ℕ) (xs : List E) (e : E) (ys : List E) → Ascends at low (xs ++ e ∷ ys)
    → AllByRecursion (λ x. (low < at x) × (at x < at e)) xs × (low < at e) × Ascends at (at e) ys
ascends_about at low [] e ys up = (tt, up.0, up.1)
ascends_about at low (x ∷ xs) e ys up =
    let rest = ascends_about at (at x) xs e ys up.1 in
    let first : low < at x = up.0 in
    let above : at x < at e = rest.1 in
    (((first, above), AllByRecursion-weaker (λ y. (at x < at y) × (at y < at e)) (λ y. (low < at y) × (at y < at e)) (λ y h. let a : at x < at y = h.0 in (omega (arith, first, a), h.1)) xs rest.0), omega (arith, first, above), rest.2)

-- the window up to an item is what stands up to it
pub window_to : {E : Type 0} (at : E → ℕ) (xs : List E) (e : E) (ys : List E) → Ascends at 0 (xs ++ e ∷ ys) → between at 0 (at e) (xs ++ e ∷ ys) ≡ xs ++ e ∷ []
window_to {E = E} at xs e ys up =
    let parts = ascends_about at 0 xs e ys up in
    let test : E → Bool = λ x. nat_lt 0 (at x) && nat_le (at x) (at e) in
    let low : 0 < at e = parts.1 in
    let own : test e ≡ true = and_from (nat_lt 0 (at e)) (nat_le (at e) (at e)) (lt-ltb 0 (at e) low) (le-leb (at e) (at e) (omega arith)) in
    let before : filter test xs ≡ xs = filter-every test xs (AllByRecursion-weaker (λ x. (0 < at x) × (at x < at e)) (λ x. test x ≡ true)
    (λ x h. let a : 0 < at x = h.0 in let b : at x < at e = h.1 in and_from (nat_lt 0 (at x)) (nat_le (at x) (at e)) (lt-ltb 0 (at x) a) (le-leb (at x) (at e) (omega (arith, b)))) xs parts.0) in
    let after : filter test ys ≡ [] = filter-no test ys (AllByRecursion-weaker (λ y. at e < at y) (λ y. test y ≡ false)
    (λ y h. ap (λ b. nat_lt 0 (at y) && b) (lt-leb (at y) (at e) h) ∙ and_no (nat_lt 0 (at y))) ys (Ascends-after at (at e) ys parts.2)) in
    filter-append test xs (e ∷ ys) ∙ ap (λ l. l ++ filter test (e ∷ ys)) before ∙ ap (λ l. xs ++ l) (first (test e) own ∙ ap (λ l. e ∷ l) after) where
      first : (b : Bool) → b ≡ true → cond b (e ∷ filter (λ x. nat_lt 0 (at x) && nat_le (at x) (at e)) ys) (filter (λ x. nat_lt 0 (at x) && nat_le (at x) (at e)) ys) ≡ e ∷ filter (λ x. nat_lt 0 (at x) && nat_le (at x) (at e)) ys
      first true t = refl
      first false t = absurd cc

-- the window up to the position before an item is what stands before it
pub window_before : {E : Type 0} (at : E → ℕ) (xs : List E) (e : E) (ys : List E) → Ascends at 0 (xs ++ e ∷ ys) → between at 0 (at e - 1) (xs ++ e ∷ ys) ≡ xs
window_before {E = E} at xs e ys up =
    let parts = ascends_about at 0 xs e ys up in
    let test : E → Bool = λ x. nat_lt 0 (at x) && nat_le (at x) (at e - 1) in
    let low : 0 < at e = parts.1 in
    let before : filter test xs ≡ xs = filter-every test xs (AllByRecursion-weaker (λ x. (0 < at x) × (at x < at e)) (λ x. test x ≡ true)
    (λ x h. let a : 0 < at x = h.0 in let b : at x < at e = h.1 in and_from (nat_lt 0 (at x)) (nat_le (at x) (at e - 1)) (lt-ltb 0 (at x) a) (le-leb (at x) (at e - 1) (omega (arith, b)))) xs parts.0) in
    let after : filter test (e ∷ ys) ≡ [] = filter-no test (e ∷ ys) (
      ap (λ b. nat_lt 0 (at e) && b) (lt-leb (at e) (at e - 1) (omega (arith, low))) ∙ and_no (nat_lt 0 (at e)),
      AllByRecursion-weaker (λ y. at e < at y) (λ y. test y ≡ false) (λ y h. let c : at e < at y = h in ap (λ b. nat_lt 0 (at y) && b) (lt-leb (at y) (at e - 1) (omega (arith, c, low))) ∙ and_no (nat_lt 0 (at y))) ys (Ascends-after at (at e) ys parts.2),
    ) in
    filter-append test xs (e ∷ ys) ∙ ap (λ l. l ++ filter test (e ∷ ys)) before ∙ ap (λ l. xs ++ l) after ∙ append-nil xs

-- what stands under a key after one item more
pub newer-last : (test : Event → Bool) (before : List Event) (e : Event) → newer (test e) e (last_of test before) ≡ last_of test (before ++ e ∷ [])
newer-last test before e = either (test e) ∙ sym (last_of-append test before (e ∷ [])) where
  either : (b : Bool) → newer b e (last_of test before) ≡ option_or (cond b (Some e) None) (last_of test before)
  either true = refl
  either false = refl

-- whether the user joins after a position and up to a front
pub later_is : (user : List ℕ) (p front : ℕ) (es : List Event) → Ascends position_of 0 es → joins_later (viewer_of user) es p front ≡ nat_lt p (last_join user front es)
later_is user p front es up = any_after position_of (joins user) 0 p front es up

-- one event, by the state at it and before it
pub visible_is : (user : List ℕ) (front : ℕ) (e : Event) (es : List Event) → Ascends position_of 0 es
    → allowed_about user es (nat_lt e.id.at (last_join user front es)) e ≡ is_visible (viewer_of user) es front e
visible_is user front e es up = ap (λ b. allowed_about user es b e) (sym (later_is user e.id.at front es up))

-- what the walk says of an event
seen_now : (user : List ℕ) (front : ℕ) (before : List Event) (e : Event) (es : List Event) → Ascends position_of 0 (before ++ e ∷ es)
    → sees user (last_of (is_own user) before) (last_of is_setting before) (nat_lt e.id.at (last_join user front (before ++ e ∷ es))) e ≡ is_visible (viewer_of user) (before ++ e ∷ es) front e
seen_now user front before e es up =
    let whole = before ++ e ∷ es in
    let later = nat_lt e.id.at (last_join user front whole) in
    let own = ap₂ (λ (a b : Option Event). allows a b later) (newer-last (is_own user) before e ∙ ap (last_of (is_own user)) (sym (window_to position_of before e es up)))
    (newer-last is_setting before e ∙ ap (last_of is_setting) (sym (window_to position_of before e es up))) in
    let past = ap (λ (l : List Event). allows (last_of (is_own user) l) (last_of is_setting l) later) (sym (window_before position_of before e es up)) in
    ap₂ (λ a b. a || ((is_own user e || is_setting e) && b)) own past ∙ visible_is user front e whole up

walked_rest : (user : List ℕ) (front : ℕ) (whole before es rest : List Event) → whole ≡ before ++ (es ++ rest) → Ascends position_of 0 whole
    → walked user (last_join user front whole) (last_of (is_own user) before) (last_of is_setting before) es ≡ map (λ e. (e, is_visible (viewer_of user) whole front e)) es
walked_rest user front whole before [] rest same up = refl
walked_rest user front whole before (e ∷ es) rest same up =
    let here : sees user (last_of (is_own user) before) (last_of is_setting before) (nat_lt e.id.at (last_join user front whole)) e ≡ is_visible (viewer_of user) whole front e =
    subst (λ (l : List Event). Ascends position_of 0 l → sees user (last_of (is_own user) before) (last_of is_setting before) (nat_lt e.id.at (last_join user front l)) e ≡ is_visible (viewer_of user) l front e) (sym same) (seen_now user front before e (es ++ rest)) up in
    let next = walked_rest user front whole (before ++ e ∷ []) es rest (same ∙ sym (append_assoc before (e ∷ []) (es ++ rest))) up in
    ap₂ (λ (b : Bool) (l : List (Event × Bool)). (e, b) ∷ l) here
    (ap₂ (λ (a b : Option Event). walked user (last_join user front whole) a b es) (newer-last (is_own user) before e) (newer-last is_setting before e) ∙ next)

-- a walk from what stood before a window
pub walked_sights : (user : List ℕ) (front : ℕ) (past rest window : List Event) (own setting : Option Event) (last : ℕ) → IsStanding user front past rest window own setting last
    → walked user last own setting window ≡ sights user (past ++ (window ++ rest)) front window
walked_sights user front past rest window own setting last is =
    ap₂ (λ (a b : Option Event). walked user last a b window) is.own_is is.setting_is
    ∙ ap (λ n. walked user n (last_of (is_own user) past) (last_of is_setting past) window) is.last_is
    ∙ walked_rest user front (past ++ (window ++ rest)) past window rest refl is.ascends

-- a walk through a window of a room's list
pub window_sights : (user : List ℕ) (low high front : ℕ) (es made : List Event) (own setting : Option Event) (last : ℕ) (seen : List (Event × Bool)) → Ascends position_of 0 es
    → own ≡ last_of (is_own user) (between position_of 0 low es) → setting ≡ last_of is_setting (between position_of 0 low es) → last ≡ last_join user front es
    → made ≡ between position_of low high es
    → ((past rest : List Event) → IsStanding user front past rest made own setting last → seen ≡ sights user (past ++ (made ++ rest)) front made)
    → seen ≡ sights user es front (between position_of low high es)
window_sights user low high front es made own setting last seen up is_own is_setting is_last is_made told =
    let cut = cut_at position_of low high es up in
    let past = between position_of 0 low es in
    let whole : past ++ (made ++ cut.0) ≡ es = ap (λ l. past ++ (l ++ cut.0)) is_made ∙ sym cut.1 in
    told past cut.0 (record {
      ascends = subst (Ascends position_of 0) (sym whole) up;
      own_is = is_own;
      setting_is = is_setting;
      last_is = is_last ∙ ap (last_join user front) (sym whole);
    }) ∙ ap₂ (λ (l m : List Event). sights user l front m) whole is_made
