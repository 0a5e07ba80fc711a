-- Windows of an ascending list: split in two, one within another; windows of items at consecutive positions.
use Rattle.std.proofs.Common.{◌≡◌, ℕ, zero, suc, nat_eq, eq-eqb, length, ◌+◌, ◌<◌, ◌≤◌, take, Bool, true, false, cond, ◌&&◌, nat_lt, nat_le, List, [], ◌∷◌, ◌++◌, map, filter, refl, ap, ap₂, sym, ◌∙◌, subst, inl, inr, arith, ltb-true, leb-true, lt-ltb, le-leb}
use Rattle.std.proofs.lemmas.Bool.{cases_Bool, and_parts, and_from, cases_lt, eqb-true}
use Rattle.std.proofs.lemmas.Bool.Decides.{nat_tests}
use Rattle.std.specs.List.{AllByRecursion}
use Rattle.mx_window.specs.Windows.{Ascends, between, stand_from}
use Rattle.mx_window.proofs.Each.{filter-weaker, AllByRecursion-passed, AllByRecursion-weaker}

-- nothing lies in a window that ends where it begins
pub between-empty : {E : Type 0} (at : E → ℕ) (low high : ℕ) (es : List E) → high ≤ low → between at low high es ≡ []
between-empty at low high [] h = refl
between-empty at low high (e ∷ es) h =
    let rest = between-empty at low high es h in
    let out : (nat_lt low (at e) && nat_le (at e) high) ≡ false = grind (arith, nat_tests) in
    rw out rest

-- nothing lies in a window that ends before the list begins
pub between-none : {E : Type 0} (at : E → ℕ) (low high base : ℕ) (es : List E) → Ascends at base es → high ≤ base → between at low high es ≡ []
between-none at low high base [] up h = refl
between-none at low high base (e ∷ es) up h =
    let rest = between-none at low high (at e) es up.1 (omega arith) in
    let after : base < at e = up.0 in
    let out : (nat_lt low (at e) && nat_le (at e) high) ≡ false = grind (arith, nat_tests) in
    rw out rest

-- a window is its two halves, joined
pub between-split : {E : Type 0} (at : E → ℕ) (low mid high base : ℕ) (es : List E) → Ascends at base es → low ≤ mid → mid ≤ high
    → between at low high es ≡ between at low mid es ++ between at mid high es
between-split at low mid high base [] up h k = refl
between-split at low mid high base (e ∷ es) up h k =
    let rest = between-split at low mid high (at e) es up.1 h k in
    elim (cases_lt mid (at e)) [
      | inl c ↦
          let none : between at low mid es ≡ [] = between-none at low mid (at e) es up.1 (omega arith) in
          let out : (nat_lt low (at e) && nat_le (at e) mid) ≡ false = grind (arith, nat_tests) in
          let same : (nat_lt low (at e) && nat_le (at e) high) ≡ (nat_lt mid (at e) && nat_le (at e) high) = grind (arith, nat_tests) in
          let tail : between at low high es ≡ between at mid high es = rest ∙ ap (λ l. l ++ between at mid high es) none in
          rw (out, none) (ap₂ (λ b l. cond b (e ∷ l) l) same tail)
      | inr c ↦
          let out : (nat_lt mid (at e) && nat_le (at e) high) ≡ false = grind (arith, nat_tests) in
          let same : (nat_lt low (at e) && nat_le (at e) high) ≡ (nat_lt low (at e) && nat_le (at e) mid) = grind (arith, nat_tests) in
          rw (out, same) (elim (cases_Bool (nat_lt low (at e) && nat_le (at e) mid)) [ inl a ↦ rw a (ap (λ l. e ∷ l) rest) | inr a ↦ rw a rest ])
    ]

-- a window within a window is a window of the whole
pub between-inner : {E : Type 0} (at : E → ℕ) (low high first end : ℕ) (es : List E) → first ≤ low → high ≤ end
    → between at low high (between at first end es) ≡ between at low high es
between-inner at low high first end es h k =
    filter-weaker (λ e. nat_lt low (at e) && nat_le (at e) high) (λ e. nat_lt first (at e) && nat_le (at e) end)
    (λ e is. let parts = and_parts (nat_lt low (at e)) (nat_le (at e) high) is in
    let after : low < at e = ltb-true low (at e) parts.0 in
    let upto : at e ≤ high = leb-true (at e) high parts.1 in
    and_from (nat_lt first (at e)) (nat_le (at e) end) (lt-ltb first (at e) (omega arith)) (le-leb (at e) end (omega arith))) es

-- each item of a window lies in it
pub between-within : {E : Type 0} (at : E → ℕ) (low high : ℕ) (es : List E) → AllByRecursion (λ e. (low < at e) × (at e ≤ high)) (between at low high es)
between-within at low high es =
    AllByRecursion-weaker (λ e. (nat_lt low (at e) && nat_le (at e) high) ≡ true) (λ e. (low < at e) × (at e ≤ high))
    (λ e is. let parts = and_parts (nat_lt low (at e)) (nat_le (at e) high) is in (ltb-true low (at e) parts.0, leb-true (at e) high parts.1))
    (between at low high es) (AllByRecursion-passed (λ e. nat_lt low (at e) && nat_le (at e) high) es)

-- a list that ascends from one position ascends from each lower one
pub Ascends-lower : {E : Type 0} (at : E → ℕ) (base low : ℕ) (es : List E) → Ascends at base es → low ≤ base → Ascends at low es
Ascends-lower at base low [] up h = tt
Ascends-lower at base low (e ∷ es) up h = let first : base < at e = up.0 in (omega arith, up.1)

-- a filter of an ascending list ascends
pub Ascends-filter : {E : Type 0} (at : E → ℕ) (base : ℕ) (test : E → Bool) (es : List E) → Ascends at base es → Ascends at base (filter test es)
Ascends-filter at base test [] up = tt
Ascends-filter at base test (e ∷ es) up =
    let rest = Ascends-filter at (at e) test es up.1 in
    elim (cases_Bool (test e)) [
      | inl a ↦ rw a (up.0, rest)
      | inr a ↦ rw a (let first : base < at e = up.0 in Ascends-lower at (at e) base (filter test es) rest (omega arith))
    ]

-- a window of an ascending list ascends from its lower end
pub Ascends-between : {E : Type 0} (at : E → ℕ) (base low high : ℕ) (es : List E) → Ascends at base es → Ascends at low (between at low high es)
Ascends-between at base low high [] up = tt
Ascends-between at base low high (e ∷ es) up =
    elim (cases_Bool (nat_lt low (at e) && nat_le (at e) high)) [
      | inl a ↦ rw a (ltb-true low (at e) (and_parts (nat_lt low (at e)) (nat_le (at e) high) a).0, Ascends-filter at (at e) (λ f. nat_lt low (at f) && nat_le (at f) high) es up.1)
      | inr a ↦ rw a (Ascends-between at (at e) low high es up.1)
    ]

-- a map that keeps positions keeps their order
pub Ascends-map : {E F : Type 0} (at : E → ℕ) (at' : F → ℕ) (f : E → F) → ((e : E) → at' (f e) ≡ at e) → (low : ℕ) (es : List E) → Ascends at low es → Ascends at' low (map f es)
Ascends-map at at' f h low [] up = tt
Ascends-map at at' f h low (e ∷ es) up = (subst (λ x. low < x) (sym (h e)) up.0, subst (λ x. Ascends at' x (map f es)) (sym (h e)) (Ascends-map at at' f h (at e) es up.1))

-- items at consecutive positions ascend
pub Ascends-stand_from : {E : Type 0} (at : E → ℕ) (base first : ℕ) (es : List E) → base < first → stand_from at first es ≡ true → Ascends at base es
Ascends-stand_from at base first [] h stands = tt
Ascends-stand_from at base first (e ∷ es) h stands =
    let parts = and_parts (nat_eq (at e) first) (stand_from at (first + 1) es) stands in
    let here : at e ≡ first = eqb-true (at e) first parts.0 in
    (omega arith, Ascends-stand_from at (at e) (first + 1) es (omega arith) parts.1)

-- a window of n positions has the first n items, where these stand at consecutive positions from its own first
window_taken : {E : Type 0} (at : E → ℕ) (low base n high : ℕ) (es : List E) → low ≤ base → high ≡ base + n → stand_from at (base + 1) es ≡ true
    → between at low high es ≡ take n es
window_taken at low base zero high es h is stands = between-none at low high base es (Ascends-stand_from at base (base + 1) es (omega arith) stands) (omega arith)
window_taken at low base (suc n) high [] h is stands = refl
window_taken at low base (suc n) high (e ∷ es) h is stands =
    let parts = and_parts (nat_eq (at e) (base + 1)) (stand_from at (base + 1 + 1) es) stands in
    let here : at e ≡ base + 1 = eqb-true (at e) (base + 1) parts.0 in
    let within : (nat_lt low (at e) && nat_le (at e) high) ≡ true = grind (arith, nat_tests) in
    rw within (ap (λ l. e ∷ l) (window_taken at low (base + 1) n high es (omega arith) (omega arith) parts.1))

-- items at consecutive positions from 1: those up to a position are the first so many
pub between-take : {E : Type 0} (at : E → ℕ) (high : ℕ) (es : List E) → stand_from at 1 es ≡ true → between at 0 high es ≡ take high es
between-take at high es stands = window_taken at 0 0 high high es (omega arith) (omega arith) stands

-- one item more at consecutive positions
pub stand_from-push : {E : Type 0} (at : E → ℕ) (first : ℕ) (es : List E) (e : E) → stand_from at first es ≡ true → at e ≡ first + length es → stand_from at first (es ++ e ∷ []) ≡ true
stand_from-push at first [] e stands next = and_from (nat_eq (at e) first) true (eq-eqb (at e) first (omega arith)) refl
stand_from-push at first (f ∷ es) e stands next =
    let parts = and_parts (nat_eq (at f) first) (stand_from at (first + 1) es) stands in
    and_from (nat_eq (at f) first) (stand_from at (first + 1) (es ++ e ∷ [])) parts.0 (stand_from-push at (first + 1) es e parts.1 (omega arith))
