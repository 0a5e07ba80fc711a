-- What holds of each item, by recursion over the list; and filters of filters.
use Rattle.std.proofs.Common.{◌≡◌, Bool, true, false, cond, ◌||◌, List, [], ◌∷◌, ◌++◌, map, filter, refl, ap, ap₂, inl, inr}
use Rattle.std.proofs.lemmas.Bool.{cases_Bool, or_parts, or_from}
use Rattle.std.specs.List.{list_any, AllByRecursion, Contains}
use Rattle.std.proofs.lemmas.List.Elements.{All-contains, All-from_recursion, recursion_from_All, All-contains_itself}
use Rattle.std.proofs.lemmas.Bool.{both_ways}

pub AllByRecursion-map : {X Y : Type 0} (P : Y → Type 0) (f : X → Y) (xs : List X) → AllByRecursion (λ x. P (f x)) xs → AllByRecursion P (map f xs)
AllByRecursion-map P f [] h = h
AllByRecursion-map P f (x ∷ xs) h = (h.0, AllByRecursion-map P f xs h.1)

pub AllByRecursion-append : {X : Type 0} (P : X → Type 0) (xs ys : List X) → AllByRecursion P xs → AllByRecursion P ys → AllByRecursion P (xs ++ ys)
AllByRecursion-append P [] ys h k = k
AllByRecursion-append P (x ∷ xs) ys h k = (h.0, AllByRecursion-append P xs ys h.1 k)

pub AllByRecursion-front : {X : Type 0} (P : X → Type 0) (xs ys : List X) → AllByRecursion P (xs ++ ys) → AllByRecursion P xs
AllByRecursion-front P [] ys h = tt
AllByRecursion-front P (x ∷ xs) ys h = (h.0, AllByRecursion-front P xs ys h.1)

pub AllByRecursion-back : {X : Type 0} (P : X → Type 0) (xs ys : List X) → AllByRecursion P (xs ++ ys) → AllByRecursion P ys
AllByRecursion-back P [] ys h = h
AllByRecursion-back P (x ∷ xs) ys h = AllByRecursion-back P xs ys h.1

pub AllByRecursion-weaker : {X : Type 0} (P Q : X → Type 0) → ((x : X) → P x → Q x) → (xs : List X) → AllByRecursion P xs → AllByRecursion Q xs
AllByRecursion-weaker P Q f [] h = tt
AllByRecursion-weaker P Q f (x ∷ xs) h = (f x h.0, AllByRecursion-weaker P Q f xs h.1)

pub AllByRecursion-both : {X : Type 0} (P Q : X → Type 0) (xs : List X) → AllByRecursion P xs → AllByRecursion Q xs → AllByRecursion (λ x. P x × Q x) xs
AllByRecursion-both P Q [] h k = tt
AllByRecursion-both P Q (x ∷ xs) h k = ((h.0, k.0), AllByRecursion-both P Q xs h.1 k.1)

pub AllByRecursion-every : {X : Type 0} (P : X → Type 0) → ((x : X) → P x) → (xs : List X) → AllByRecursion P xs
AllByRecursion-every P f [] = tt
AllByRecursion-every P f (x ∷ xs) = (f x, AllByRecursion-every P f xs)

pub AllByRecursion-filter : {X : Type 0} (P : X → Type 0) (test : X → Bool) (xs : List X) → AllByRecursion P xs → AllByRecursion P (filter test xs)
AllByRecursion-filter P test [] h = tt
AllByRecursion-filter P test (x ∷ xs) h =
    let rest = AllByRecursion-filter P test xs h.1 in
    elim (cases_Bool (test x)) [ inl a ↦ rw a (h.0, rest) | inr a ↦ rw a rest ]

-- what a filter keeps passes
pub AllByRecursion-passed : {X : Type 0} (test : X → Bool) (xs : List X) → AllByRecursion (λ x. test x ≡ true) (filter test xs)
AllByRecursion-passed test [] = tt
AllByRecursion-passed test (x ∷ xs) =
    let rest = AllByRecursion-passed test xs in
    elim (cases_Bool (test x)) [ inl a ↦ rw a (a, rest) | inr a ↦ rw a rest ]

-- none passes where the test finds none
pub AllByRecursion-none : {X : Type 0} (test : X → Bool) (xs : List X) → list_any test xs ≡ false → AllByRecursion (λ x. test x ≡ false) xs
AllByRecursion-none test [] h = tt
AllByRecursion-none test (x ∷ xs) h =
    let parts = or_parts (test x) (list_any test xs) h in
    (parts.0, AllByRecursion-none test xs parts.1)

pub list_any-none : {X : Type 0} (test : X → Bool) (xs : List X) → AllByRecursion (λ x. test x ≡ false) xs → list_any test xs ≡ false
list_any-none test [] h = refl
list_any-none test (x ∷ xs) h = or_from (test x) (list_any test xs) h.0 (list_any-none test xs h.1)

-- a filter that asks for no more than another undoes nothing of it
pub filter-weaker : {X : Type 0} (p q : X → Bool) → ((x : X) → p x ≡ true → q x ≡ true) → (xs : List X) → filter p (filter q xs) ≡ filter p xs
filter-weaker p q f [] = refl
filter-weaker p q f (x ∷ xs) =
    let rest = filter-weaker p q f xs in
    elim (cases_Bool (p x)) [
      | inl a ↦ rw (f x a, a) (ap (λ l. x ∷ l) rest)
      | inr a ↦ elim (cases_Bool (q x)) [ inl b ↦ rw (b, a) rest | inr b ↦ rw (b, a) rest ]
    ]

pub filter-swap : {X : Type 0} (p q : X → Bool) (xs : List X) → filter p (filter q xs) ≡ filter q (filter p xs)
filter-swap p q [] = refl
filter-swap p q (x ∷ xs) =
    let rest = filter-swap p q xs in
    elim (cases_Bool (p x)) [
      | inl a ↦ elim (cases_Bool (q x)) [ inl b ↦ rw (b, a, b) (ap (λ l. x ∷ l) rest) | inr b ↦ rw (b, a, b) rest ]
      | inr a ↦ elim (cases_Bool (q x)) [ inl b ↦ rw (b, a) rest | inr b ↦ rw (b, a) rest ]
    ]

-- tests that agree at each item of a list keep the same
pub filter-same : {X : Type 0} (p q : X → Bool) (xs : List X) → AllByRecursion (λ x. p x ≡ q x) xs → filter p xs ≡ filter q xs
filter-same p q [] h = refl
filter-same p q (x ∷ xs) h =
    let rest = filter-same p q xs h.1 in
    elim (cases_Bool (q x)) [ inl a ↦ rw (h.0, a) (ap (λ l. x ∷ l) rest) | inr a ↦ rw (h.0, a) rest ]

-- what holds of each item holds of one in the list
pub AllByRecursion-at : {X : Type 0} (P : X → Type 0) (xs : List X) (x : X) → AllByRecursion P xs → Contains xs x → P x
AllByRecursion-at P xs x h in' = All-contains P xs x (All-from_recursion P xs h) in'

pub AllByRecursion-contained : {X : Type 0} (xs : List X) → AllByRecursion (Contains xs) xs
AllByRecursion-contained xs = recursion_from_All (Contains xs) xs (All-contains_itself xs)

pub map-map : {X Y Z : Type 0} (f : Y → Z) (g : X → Y) (xs : List X) → map f (map g xs) ≡ map (λ x. f (g x)) xs
map-map f g [] = refl
map-map f g (x ∷ xs) = ap (λ l. f (g x) ∷ l) (map-map f g xs)

pub map-same : {X Y : Type 0} (f g : X → Y) → ((x : X) → f x ≡ g x) → (xs : List X) → map f xs ≡ map g xs
map-same f g h [] = refl
map-same f g h (x ∷ xs) = ap₂ (λ y l. y ∷ l) (h x) (map-same f g h xs)

pub list_any-map : {X Y : Type 0} (test : Y → Bool) (f : X → Y) (xs : List X) → list_any test (map f xs) ≡ list_any (λ x. test (f x)) xs
list_any-map test f [] = refl
list_any-map test f (x ∷ xs) = ap (λ b. test (f x) || b) (list_any-map test f xs)

pub list_any-same : {X : Type 0} (p q : X → Bool) → ((x : X) → p x ≡ q x) → (xs : List X) → list_any p xs ≡ list_any q xs
list_any-same p q h [] = refl
list_any-same p q h (x ∷ xs) = ap₂ (λ a b. a || b) (h x) (list_any-same p q h xs)

-- where none that a filter keeps passes, what passes is not kept
pub filter-none : {X : Type 0} (test keep : X → Bool) (xs : List X) → list_any test (filter keep xs) ≡ false → AllByRecursion (λ x. keep x ≡ true → test x ≡ false) xs
filter-none test keep [] h = tt
filter-none test keep (x ∷ xs) h = go (keep x) refl h (λ k. filter-none test keep xs k) where
  go : (b : Bool) → keep x ≡ b → list_any test (cond b (x ∷ filter keep xs) (filter keep xs)) ≡ false → (list_any test (filter keep xs) ≡ false → AllByRecursion (λ y. keep y ≡ true → test y ≡ false) xs)
      → AllByRecursion (λ y. keep y ≡ true → test y ≡ false) (x ∷ xs)
  go true b n rest = let parts = or_parts (test x) (list_any test (filter keep xs)) n in (λ k. parts.0, rest parts.1)
  go false b n rest = (λ k. absurd (both_ways (keep x) b k), rest n)
