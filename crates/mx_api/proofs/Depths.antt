-- How deep the values of a list and of an object nest.
use Rattle.std.proofs.Common.{◌≡◌, ℕ, zero, suc, ◌+◌, ◌-◌, ◌≤◌, max, Bool, true, false, ◌&&◌, List, [], ◌∷◌, ◌++◌, length, take, drop, refl, ap, sym, ◌∙◌, arith}
use Rattle.std.specs.Cmp.{both_ways}
use Rattle.std.specs.Prelude.{nat_le}
use Rattle.std.proofs.lemmas.Bool.{and_from, and_parts, le-leb, leb-true}
use Rattle.std.proofs.lemmas.List.{take-append-drop}
use Rattle.std.proofs.Math.Bool.{and_assoc}
use Rattle.serde_json.specs.Data.{depth, items_depth, members_depth, array, object}
use Rattle.mx_json.specs.Values.{items_data, members_data}
use Rattle.mx_api.specs.Levels.{levels}
use Rattle.mx_json.specs.declared.members.Member.{Member}
use Rattle.mx_json.specs.declared.value.Json.{Json}

and_true : (b : Bool) → b ≡ b && true
and_true true = refl
and_true false = refl

both_within : (a b n : ℕ) → nat_le (max a b) n ≡ nat_le a n && nat_le b n
both_within a b n = both_ways (nat_le (max a b) n) (nat_le a n && nat_le b n)
    (λ e. let h : max a b ≤ n = leb-true (max a b) n e in and_from (nat_le a n) (nat_le b n) (le-leb a n (omega (arith, h))) (le-leb b n (omega (arith, h))))
    (λ e. let p = and_parts (nat_le a n) (nat_le b n) e in let l : a ≤ n = leb-true a n p.0 in let r : b ≤ n = leb-true b n p.1 in le-leb (max a b) n (omega (arith, l, r)))

and_false : (b : Bool) → b && false ≡ false
and_false true = refl
and_false false = refl

-- one level more
pub one_level : (a n : ℕ) → (n ≡ 0 → ⊥) → nat_le (suc a) n ≡ nat_le a (n - 1)
one_level a zero some = absurd (some refl)
one_level a (suc n) some = both_ways (nat_le (suc a) (suc n)) (nat_le a (suc n - 1))
    (λ e. let h : suc a ≤ suc n = leb-true (suc a) (suc n) e in le-leb a (suc n - 1) (omega (arith, h)))
    (λ e. let h : a ≤ suc n - 1 = leb-true a (suc n - 1) e in le-leb (suc a) (suc n) (omega (arith, h)))

-- the largest of the numbers of some items
abbrev pub deepest : {A : Type 0} → (A → ℕ) → List A → ℕ
deepest f [] = 0
deepest f (x ∷ xs) = max (f x) (deepest f xs)

pub items_deepest : (js : List Json) → items_depth (items_data js) ≡ deepest levels js
items_deepest [] = refl
items_deepest (j ∷ js) = ap (max (levels j)) (items_deepest js)

pub members_deepest : (ms : List (Member Json)) → members_depth (members_data ms) ≡ deepest (λ m. levels m.value) ms
members_deepest [] = refl
members_deepest (m ∷ ms) = ap (max (levels m.value)) (members_deepest ms)

module _ {A : Type 0} (f : A → ℕ) (n : ℕ) where
  append_within : (xs ys : List A) → nat_le (deepest f (xs ++ ys)) n ≡ nat_le (deepest f xs) n && nat_le (deepest f ys) n
  append_within [] ys = ap (λ b. b && nat_le (deepest f ys) n) (sym (le-leb 0 n (omega arith)))
  append_within (x ∷ xs) ys =
      both_within (f x) (deepest f (xs ++ ys)) n ∙ ap (λ b. nat_le (f x) n && b) (append_within xs ys)
      ∙ sym (and_assoc (nat_le (f x) n) (nat_le (deepest f xs) n) (nat_le (deepest f ys) n))
      ∙ ap (λ b. b && nat_le (deepest f ys) n) (sym (both_within (f x) (deepest f xs) n))

  one_within : (x : A) → nat_le (deepest f (x ∷ [])) n ≡ nat_le (f x) n
  one_within x = both_within (f x) 0 n ∙ ap (λ b. nat_le (f x) n && b) (le-leb 0 n (omega arith)) ∙ sym (and_true (nat_le (f x) n))

  -- one item more
  pub more_within : (xs ys : List A) (x : A) (b : Bool) → ys ≡ xs ++ x ∷ [] → nat_le (deepest f xs) n ≡ true → b ≡ nat_le (f x) n → b ≡ true → nat_le (deepest f ys) n ≡ true
  more_within xs ys x b more before is within =
      ap (λ l. nat_le (deepest f l) n) more ∙ append_within xs (x ∷ []) ∙ (λ i. before i && one_within x i) ∙ sym is ∙ within

  -- an item that is too deep
  pub too_deep : (all xs ys : List A) (i : ℕ) (x : A) (b : Bool) → ys ≡ xs ++ x ∷ [] → ys ≡ take i all → b ≡ nat_le (f x) n → b ≡ false → nat_le (deepest f all) n ≡ false
  too_deep all xs ys i x b more front is deep =
      ap (λ l. nat_le (deepest f l) n) (sym (take-append-drop i all)) ∙ append_within (take i all) (drop i all)
      ∙ ap (λ l. nat_le (deepest f l) n && nat_le (deepest f (drop i all)) n) (sym front ∙ more)
      ∙ ap (λ c. c && nat_le (deepest f (drop i all)) n) (append_within xs (x ∷ []) ∙ ap (λ c. nat_le (deepest f xs) n && c) (one_within x ∙ sym is ∙ deep) ∙ and_false (nat_le (deepest f xs) n))
