-- The last item that passes a test, in joined lists and in filters.
use Rattle.std.proofs.Common.{◌≡◌, ℕ, ◌≤◌, Bool, true, false, cond, ◌||◌, List, [], ◌∷◌, ◌++◌, map, Option, Some, None, is_some, option_map, filter, refl, ap, ap₂, sym, ◌∙◌, subst, inl, inr}
use Rattle.std.proofs.lemmas.Bool.{cases_Bool, or_parts, both_ways}
use Rattle.std.specs.List.{list_any, AllByRecursion}
use Rattle.std.specs.Option.{option_or}
use Rattle.mx_window.specs.Windows.{Ascends, between}
use Rattle.mx_window.specs.Lasts.{last_of, current, keep_if}
use Rattle.mx_window.proofs.Each.{list_any-same}
use Rattle.mx_window.proofs.Intervals.{between-split}

pub option_or-none : {A : Type 0} (o : Option A) → option_or o None ≡ o
option_or-none None = refl
option_or-none (Some x) = refl

pub option_or-assoc : {A : Type 0} (a b c : Option A) → option_or (option_or a b) c ≡ option_or a (option_or b c)
option_or-assoc None b c = refl
option_or-assoc (Some x) b c = refl

pub last_of-append : {E : Type 0} (test : E → Bool) (xs ys : List E) → last_of test (xs ++ ys) ≡ option_or (last_of test ys) (last_of test xs)
last_of-append test [] ys = sym (option_or-none (last_of test ys))
last_of-append test (x ∷ xs) ys =
    let here : Option _ = cond (test x) (Some x) None in
    ap (λ o. option_or o here) (last_of-append test xs ys) ∙ option_or-assoc (last_of test ys) (last_of test xs) here

-- what a filter leaves out is not the last that passes, if it does not pass
pub last_of-filter : {E : Type 0} (test keep : E → Bool) (es : List E) → AllByRecursion (λ e. test e ≡ true → keep e ≡ true) es → last_of test (filter keep es) ≡ last_of test es
last_of-filter test keep [] h = refl
last_of-filter test keep (e ∷ es) h =
    let rest = last_of-filter test keep es h.1 in
    elim (cases_Bool (keep e)) [
      | inl a ↦ rw a (ap (λ o. option_or o (cond (test e) (Some e) None)) rest)
      | inr a ↦
          let out : test e ≡ false = elim (cases_Bool (test e)) [ inl b ↦ absurd (both_ways (keep e) a (h.0 b)) | inr b ↦ b ] in
          rw (a, out) (rest ∙ sym (option_or-none (last_of test es)))
    ]

-- tests that agree at each item have the same last
pub last_of-same : {E : Type 0} (p q : E → Bool) (es : List E) → AllByRecursion (λ e. p e ≡ q e) es → last_of p es ≡ last_of q es
last_of-same p q [] h = refl
last_of-same p q (e ∷ es) h = ap₂ (λ o b. option_or o (cond b (Some e) None)) (last_of-same p q es h.1) h.0

-- the last that passes passes, and has what each item has
pub last_of-some : {E : Type 0} (P : E → Type 0) (test : E → Bool) (es : List E) (e : E) → AllByRecursion P es → last_of test es ≡ Some e → (test e ≡ true) × P e
last_of-some P test [] e h is = absurd cc
last_of-some P test (f ∷ es) e h is = go (last_of test es) (λ k. last_of-some P test es e h.1 k) (test f) refl is where
  go : (o : Option _) → (o ≡ Some e → (test e ≡ true) × P e) → (b : Bool) → test f ≡ b → option_or o (cond b (Some f) None) ≡ Some e → (test e ≡ true) × P e
  go (Some g) rest b eb eq = rest eq
  go None rest true eb eq = let k : f ≡ e = cc (eq) in (ap test (sym k) ∙ eb, subst P k h.0)
  go None rest false eb eq = absurd (cc (eq))

pub last_of-none : {E : Type 0} (test : E → Bool) (es : List E) → list_any test es ≡ false → last_of test es ≡ None
last_of-none test [] h = refl
last_of-none test (e ∷ es) h =
    let parts = or_parts (test e) (list_any test es) h in rw (last_of-none test es parts.1, parts.0) refl

pub none-last_of : {E : Type 0} (test : E → Bool) (es : List E) → last_of test es ≡ None → list_any test es ≡ false
none-last_of test [] h = refl
none-last_of test (e ∷ es) h = go (last_of test es) (λ k. none-last_of test es k) (test e) h where
  go : (o : Option _) → (o ≡ None → list_any test es ≡ false) → (b : Bool) → option_or o (cond b (Some e) None) ≡ None → (b || list_any test es) ≡ false
  go (Some g) rest b eq = absurd (cc (eq))
  go None rest true eq = absurd (cc (eq))
  go None rest false eq = rest refl

-- the last in a window is the last in its second half, else the last in its first
pub last_of-split : {E : Type 0} (at : E → ℕ) (test : E → Bool) (low mid high base : ℕ) (es : List E) → Ascends at base es → low ≤ mid → mid ≤ high
    → last_of test (between at low high es) ≡ option_or (last_of test (between at mid high es)) (last_of test (between at low mid es))
last_of-split at test low mid high base es up h k =
    ap (last_of test) (between-split at low mid high base es up h k) ∙ last_of-append test (between at low mid es) (between at mid high es)

-- an item of the current ones is an item of the list
pub AllByRecursion-current : {E : Type 0} (P : E → Type 0) (same : E → E → Bool) (es : List E) → AllByRecursion P es → AllByRecursion P (current same es)
AllByRecursion-current P same [] h = tt
AllByRecursion-current P same (e ∷ es) h =
    let rest = AllByRecursion-current P same es h.1 in
    elim (cases_Bool (list_any (same e) es)) [ inl a ↦ rw a rest | inr a ↦ rw a (h.0, rest) ]

picked_step : {E : Type 0} (pick : E → Bool) (e : E) (found h p : Bool) (here before : Option E) → ((h ≡ true) → found ≡ is_some here) → pick e ≡ p → before ≡ keep_if pick here
    → cond found before (cond p (option_or before (cond h (Some e) None)) before) ≡ keep_if pick (option_or here (cond h (Some e) None))
picked_step pick e found true p (Some g) before k q b = let is : found ≡ true = k refl in rw is b
picked_step pick e found true true None before k q b = let is : found ≡ false = k refl in rw (is, b, q) refl
picked_step pick e found true false None before k q b = let is : found ≡ false = k refl in rw (is, b, q) refl
picked_step pick e true false p here before k q b = b ∙ ap (keep_if pick) (sym (option_or-none here))
picked_step pick e false false true here before k q b = option_or-none before ∙ b ∙ ap (keep_if pick) (sym (option_or-none here))
picked_step pick e false false false here before k q b = b ∙ ap (keep_if pick) (sym (option_or-none here))

or_some : {E : Type 0} (o : Option E) (b : Bool) (e : E) → (b || is_some o) ≡ is_some (option_or o (cond b (Some e) None))
or_some (Some g) true e = refl
or_some (Some g) false e = refl
or_some None true e = refl
or_some None false e = refl

pub is_some-last_of : {E : Type 0} (test : E → Bool) (es : List E) → list_any test es ≡ is_some (last_of test es)
is_some-last_of test [] = refl
is_some-last_of test (e ∷ es) = ap (λ b. test e || b) (is_some-last_of test es) ∙ or_some (last_of test es) (test e) e

pick_cases : {E : Type 0} (pick has : E → Bool) (e : E) (cs : List E) (found p : Bool) → pick e ≡ p
    → last_of has (filter pick (cond found cs (e ∷ cs)))
    ≡ cond found (last_of has (filter pick cs)) (cond p (option_or (last_of has (filter pick cs)) (cond (has e) (Some e) None)) (last_of has (filter pick cs)))
pick_cases pick has e cs true p q = refl
pick_cases pick has e cs false true q = rw q refl
pick_cases pick has e cs false false q = rw q refl

-- of the current items that are picked, the last of a key is the last of the key, if it is picked
pub last_of-picked : {E : Type 0} (same : E → E → Bool) (has : E → Bool) → ((e f : E) → has e ≡ true → same e f ≡ has f) → (pick : E → Bool) (es : List E)
    → last_of has (filter pick (current same es)) ≡ keep_if pick (last_of has es)
last_of-picked same has key pick [] = refl
last_of-picked same has key pick (e ∷ es) =
    pick_cases pick has e (current same es) (list_any (same e) es) (pick e) refl
    ∙ picked_step pick e (list_any (same e) es) (has e) (pick e) (last_of has es) (last_of has (filter pick (current same es)))
    (λ h. list_any-same (same e) has (λ f. key e f h) es ∙ is_some-last_of has es) refl (last_of-picked same has key pick es)

-- the last that passes among what a map gives
pub last_of-map : {E F : Type 0} (test : F → Bool) (f : E → F) (es : List E) → last_of test (map f es) ≡ option_map f (last_of (λ e. test (f e)) es)
last_of-map test f [] = refl
last_of-map test f (e ∷ es) = ap (λ o. option_or o (cond (test (f e)) (Some (f e)) None)) (last_of-map test f es) ∙ map_step f (last_of (λ d. test (f d)) es) (test (f e)) e where
  map_step : {E F : Type 0} (f : E → F) (o : Option E) (b : Bool) (e : E) → option_or (option_map f o) (cond b (Some (f e)) None) ≡ option_map f (option_or o (cond b (Some e) None))
  map_step f None true e = refl
  map_step f None false e = refl
  map_step f (Some g) b e = refl
