-- The last few items of a window are a window: a section, a page.
use Rattle.std.proofs.Common.{◌≡◌, ℕ, zero, suc, ◌-◌, ◌<◌, ◌≤◌, Bool, true, false, cond, ◌&&◌, nat_lt, nat_le, List, [], ◌∷◌, length, drop, Option, Some, None, filter, refl, ap, sym, ◌∙◌, subst, arith, le-ltb}
use Rattle.std.proofs.lemmas.Bool.{and_left}
use Rattle.std.proofs.lemmas.Bool.Decides.{nat_tests}
use Rattle.std.specs.List.{list_any, AllByRecursion}
use Rattle.std.specs.Option.{option_or}
use Rattle.mx_window.specs.Windows.{Ascends, between, before_first}
use Rattle.mx_window.specs.Lasts.{last_of, last, last_at}
use Rattle.mx_window.proofs.Lasts.{last_of-some, none-last_of}
use Rattle.mx_window.proofs.Each.{AllByRecursion-none, list_any-none, filter-swap, AllByRecursion-filter, AllByRecursion-weaker}
use Rattle.mx_window.proofs.Intervals.{between-inner, between-within, Ascends-filter, Ascends-between, Ascends-lower}

-- the position before the first item lies between the ends
pub before_first-low : {E : Type 0} (at : E → ℕ) (low high : ℕ) (es : List E) → Ascends at low es → low ≤ high → low ≤ before_first at high es
before_first-low at low high [] up h = h
before_first-low at low high (e ∷ es) up h = let first : low < at e = up.0 in omega arith

pub Ascends-drop : {E : Type 0} (at : E → ℕ) (low k : ℕ) (es : List E) → Ascends at low es → Ascends at low (drop k es)
Ascends-drop at low zero es up = up
Ascends-drop at low (suc k) [] up = tt
Ascends-drop at low (suc k) (e ∷ es) up = Ascends-drop at low k es (let first : low < at e = up.0 in Ascends-lower at (at e) low es up.1 (omega arith))

pub AllByRecursion-drop : {E : Type 0} (P : E → Type 0) (k : ℕ) (es : List E) → AllByRecursion P es → AllByRecursion P (drop k es)
AllByRecursion-drop P zero es h = h
AllByRecursion-drop P (suc k) [] h = tt
AllByRecursion-drop P (suc k) (e ∷ es) h = AllByRecursion-drop P k es h.1

pub before_first-high : {E : Type 0} (at : E → ℕ) (high : ℕ) (es : List E) → AllByRecursion (λ e. at e ≤ high) es → before_first at high es ≤ high
before_first-high at high [] h = omega arith
before_first-high at high (e ∷ es) h = let first : at e ≤ high = h.0 in omega arith

-- a whole ascending list is the part above the position before its first item
pub whole-between : {E : Type 0} (at : E → ℕ) (low q high : ℕ) (es : List E) → Ascends at low es → q ≤ low → AllByRecursion (λ e. at e ≤ high) es
    → es ≡ between at q high es
whole-between at low q high [] up k h = refl
whole-between at low q high (e ∷ es) up k h =
    let first : low < at e = up.0 in
    let upto : at e ≤ high = h.0 in
    let here : (nat_lt q (at e) && nat_le (at e) high) ≡ true = grind (arith, nat_tests) in
    let rest : es ≡ between at q high es = whole-between at (at e) q high es up.1 (omega arith) h.1 in
    rw here (ap (λ l. e ∷ l) rest)

-- what is left of an ascending list is the part above the position before its first item
pub drop-between : {E : Type 0} (at : E → ℕ) (low high k : ℕ) (es : List E) → Ascends at low es → AllByRecursion (λ e. at e ≤ high) es
    → drop k es ≡ between at (before_first at high (drop k es)) high es
drop-between at low high zero [] up h = refl
drop-between at low high (suc k) [] up h = refl
drop-between at low high zero (e ∷ es) up h =
    let first : low < at e = up.0 in
    whole-between at (at e - 1) (at e - 1) high (e ∷ es) (omega arith, up.1) (omega arith) h
drop-between at low high (suc k) (e ∷ es) up h =
    let rest : drop k es ≡ between at (before_first at high (drop k es)) high es = drop-between at (at e) high k es up.1 h.1 in
    let upto : at e ≤ high = h.0 in
    let above : at e ≤ before_first at high (drop k es) = before_first-low at (at e) high (drop k es) (Ascends-drop at (at e) k es up.1) upto in
    let out : (nat_lt (before_first at high (drop k es)) (at e) && nat_le (at e) high) ≡ false = and_left (nat_lt (before_first at high (drop k es)) (at e)) (nat_le (at e) high) (le-ltb (before_first at high (drop k es)) (at e) above) in
    rw out rest

-- the last items of the sendable events of a window are the sendable events above the position before the first of them
pub last-between : {E : Type 0} (at : E → ℕ) (test : E → Bool) (n low high base : ℕ) (es : List E) → Ascends at base es → low ≤ high
    → (q : ℕ) → q ≡ before_first at high (last n (filter test (between at low high es)))
    → (last n (filter test (between at low high es)) ≡ filter test (between at q high es)) × (low ≤ q) × (q ≤ high)
last-between at test n low high base es up le q is =
    let passing : List _ = filter test (between at low high es) in
    let rises : Ascends at low passing = Ascends-filter at low test (between at low high es) (Ascends-between at base low high es up) in
    let upto : AllByRecursion (λ e. at e ≤ high) passing = AllByRecursion-filter (λ e. at e ≤ high) test (between at low high es) (AllByRecursion-weaker (λ e. (low < at e) × (at e ≤ high)) (λ e. at e ≤ high) (λ e h. h.1) (between at low high es) (between-within at low high es)) in
    let k : ℕ = length passing - n in
    let cut : drop k passing ≡ between at (before_first at high (drop k passing)) high passing = drop-between at low high k passing rises upto in
    let above : low ≤ before_first at high (drop k passing) = before_first-low at low high (drop k passing) (Ascends-drop at low k passing rises) le in
    let below : before_first at high (drop k passing) ≤ high = before_first-high at high (drop k passing) (AllByRecursion-drop (λ e. at e ≤ high) k passing upto) in
    let low_q : low ≤ q = subst (λ x. low ≤ x) (sym is) above in
    let q_high : q ≤ high = subst (λ x. x ≤ high) (sym is) below in
    let inner : between at q high passing ≡ filter test (between at q high es) =
    filter-swap (λ e. nat_lt q (at e) && nat_le (at e) high) test (between at low high es) ∙ ap (filter test) (between-inner at q high low high es low_q (omega arith)) in
    (subst (λ x. drop k passing ≡ between at x high passing) (sym is) cut ∙ inner, low_q, q_high)

pub list_any-filter : {E : Type 0} (test keep : E → Bool) (es : List E) → list_any test es ≡ false → list_any test (filter keep es) ≡ false
list_any-filter test keep es h = list_any-none test (filter keep es) (AllByRecursion-filter (λ e. test e ≡ false) keep es (AllByRecursion-none test es h))

-- each item of an ascending list lies above where it begins
pub Ascends-after : {E : Type 0} (at : E → ℕ) (low : ℕ) (es : List E) → Ascends at low es → AllByRecursion (λ e. low < at e) es
Ascends-after at low [] up = tt
Ascends-after at low (e ∷ es) up =
    let first : low < at e = up.0 in
    (first, AllByRecursion-weaker (λ f. at e < at f) (λ f. low < at f) (λ f h. let k : at e < at f = h in omega arith) es (Ascends-after at (at e) es up.1))

-- after the last item that passes none passes
none-after : {E : Type 0} (at : E → ℕ) (test : E → Bool) (low high : ℕ) (es : List E) (e : E) → Ascends at low es → last_of test es ≡ Some e
    → list_any test (between at (at e) high es) ≡ false
none-after at test low high [] e up is = refl
none-after at test low high (x ∷ es) e up is =
    go (last_of test es) refl (λ k. none-after at test (at x) high es e up.1 k) (test x) is where
      go : (o : Option _) → last_of test es ≡ o → (o ≡ Some e → list_any test (between at (at e) high es) ≡ false) → (b : Bool) → option_or o (cond b (Some x) None) ≡ Some e
          → list_any test (between at (at e) high (x ∷ es)) ≡ false
      go (Some g) found rest b eq =
          let later : at x < at e = (last_of-some (λ f. at x < at f) test es e (Ascends-after at (at x) es up.1) (found ∙ eq)).1 in
          let out : (nat_lt (at e) (at x) && nat_le (at x) high) ≡ false = grind (arith, nat_tests) in
          rw out (rest eq)
      go None found rest true eq =
          let same : x ≡ e = cc (eq) in
          let out : (nat_lt (at e) (at x) && nat_le (at x) high) ≡ false = and_left (nat_lt (at e) (at x)) (nat_le (at x) high) (le-ltb (at e) (at x) (omega (arith, ap at same))) in
          rw out (list_any-filter test (λ f. nat_lt (at e) (at f) && nat_le (at f) high) es (none-last_of test es found))
      go None found rest false eq = absurd (cc (eq))

-- the position of the last item that passes in a window, or the window's lower end, lies in it, and no later one passes
pub after-last : {E : Type 0} (at : E → ℕ) (test : E → Bool) (low high base : ℕ) (es : List E) → Ascends at base es → low ≤ high
    → (b : ℕ) → b ≡ last_at at low (last_of test (between at low high es)) → (low ≤ b) × (b ≤ high) × (list_any test (between at b high es) ≡ false)
after-last at test low high base es up le b is = go (last_of test (between at low high es)) refl is where
  go : (o : Option _) → last_of test (between at low high es) ≡ o → b ≡ last_at at low o → (low ≤ b) × (b ≤ high) × (list_any test (between at b high es) ≡ false)
  go None found here = (omega arith, omega arith, rw here (none-last_of test (between at low high es) found))
  go (Some e) found here =
      let lies : (low < at e) × (at e ≤ high) = (last_of-some (λ f. (low < at f) × (at f ≤ high)) test (between at low high es) e (between-within at low high es) found).1 in
      let none : list_any test (between at (at e) high (between at low high es)) ≡ false =
      none-after at test low high (between at low high es) e (Ascends-between at base low high es up) found in
      let low_b : low ≤ b = omega (arith, lies.0) in
      let inner : between at (at e) high (between at low high es) ≡ between at (at e) high es = between-inner at (at e) high low high es (omega (arith, lies.0)) (omega arith) in
      (low_b, omega (arith, lies.1), rw here (ap (list_any test) (sym inner) ∙ none))
