-- What the readers find.
use Rattle.std.proofs.Common.{◌≡◌, ℕ, pos, Bool, true, false, List, [], ◌∷◌, ◌++◌, map, Option, Some, None, option_map, option_and_then, if◌then◌else◌, refl, ap, ◌∙◌}
use Rattle.std.specs.Str.{bytes_eq}
use Rattle.mx_json.specs.Fields.{bool_in, bool_of, int_in, is_object_in, list_in, list_of, members_in, text_in, text_of}
use Rattle.mx_json.specs.Keys.{value_at}
use Rattle.mx_json.specs.declared.members.Member.{Member}
use Rattle.mx_json.specs.declared.value.Json.{Json}
use Rattle.mx_json.specs.declared.value.Json.TheVariants as json
use Rattle.mx_json.specs.declared.value.Json.TheViews.{outs-Bool, outs-Int, outs-List, outs-Object, outs-Text}
use Rattle.mx_event.specs.Forms.{member_if}
use Rattle.mx_copy.specs.Looks.{◌>>=◌, each, listed, natural_in, natural_of, object_of, seen_if}

-- Values of the variants are seen as such.

pub text_back : (t : List ℕ) → text_of (json.Text t) ≡ Some t
text_back t = ap text_in (outs-Text t)

pub bool_back : (b : Bool) → bool_of (json.Bool b) ≡ Some b
bool_back b = ap bool_in (outs-Bool b)

pub list_back : (js : List Json) → list_of (json.List js) ≡ Some js
list_back js = ap list_in (outs-List js)

pub natural_back : (n : ℕ) → natural_of (json.Int (pos n)) ≡ Some n
natural_back n = ap (λ y. natural_in (int_in y)) (outs-Int (pos n))

pub object_back : (ms : List (Member Json)) → object_of (json.Object ms) ≡ Some ms
object_back ms = ap (λ y. if is_object_in y then Some (members_in y) else None) (outs-Object ms)

-- one step of a reading
pub next : {A B : Type 0} (f : A → Option B) (o : Option A) (a : A) (r : Option B) → o ≡ Some a → f a ≡ r → (o >>= f) ≡ r
next f o a r is rest = ap (λ p. p >>= f) is ∙ rest

-- an optional member that was put in
pub seen_back : {A : Type 0} (see : Json → Option A) (make : A → Json) → ((a : A) → see (make a) ≡ Some a) → (o : Option A) → seen_if see (option_map make o) ≡ Some o
seen_back see make back None = refl
seen_back see make back (Some a) = ap (option_map Some) (back a)

pub seen_as : {X A : Type 0} (see : Json → Option A) (make : X → Json) (copy : X → A) → ((x : X) → see (make x) ≡ Some (copy x)) → (o : Option X) → seen_if see (option_map make o) ≡ Some (option_map copy o)
seen_as see make copy back None = refl
seen_as see make copy back (Some x) = ap (option_map Some) (back x)

-- at another key
pub passed : (k key : List ℕ) (o : Option Json) (ms : List (Member Json)) → bytes_eq key k ≡ false → value_at k (member_if key o ++ ms) ≡ value_at k ms
passed k key None ms other = refl
passed k key (Some j) ms other = ap (λ b. if b then Some j else value_at k ms) other

-- at its own key, where no later member has it
pub held : (k : List ℕ) (o : Option Json) (ms : List (Member Json)) → bytes_eq k k ≡ true → value_at k ms ≡ None → value_at k (member_if k o ++ ms) ≡ o
held k None ms same none = none
held k (Some j) ms same none = ap (λ b. if b then Some j else value_at k ms) same

-- the same of a last member
pub last_passed : (k key : List ℕ) (o : Option Json) → bytes_eq key k ≡ false → value_at k (member_if key o) ≡ None
last_passed k key None other = refl
last_passed k key (Some j) other = ap (λ b. if b then Some j else None) other

pub last_held : (k : List ℕ) (o : Option Json) → bytes_eq k k ≡ true → value_at k (member_if k o) ≡ o
last_held k None same = refl
last_held k (Some j) same = ap (λ b. if b then Some j else None) same

-- each item that is made is seen
pub each_back : {X A : Type 0} (see : Json → Option A) (make : X → Json) (copy : X → A) → ((x : X) → see (make x) ≡ Some (copy x)) → (xs : List X) → each see (map make xs) ≡ Some (map copy xs)
each_back see make copy back [] = refl
each_back see make copy back (x ∷ xs) =
    ap (option_and_then (λ a. option_map (λ rest. a ∷ rest) (each see (map make xs)))) (back x) ∙ ap (option_map (λ rest. copy x ∷ rest)) (each_back see make copy back xs)

pub listed_back : {X A : Type 0} (see : Json → Option A) (make : X → Json) (copy : X → A) → ((x : X) → see (make x) ≡ Some (copy x)) → (xs : List X) → listed see (json.List (map make xs)) ≡ Some (map copy xs)
listed_back see make copy back xs = ap (option_and_then (each see)) (list_back (map make xs)) ∙ each_back see make copy back xs

-- items that are seen as they are
map_same : {A : Type 0} (xs : List A) → map (λ x. x) xs ≡ xs
map_same [] = refl
map_same (x ∷ xs) = ap (λ rest. x ∷ rest) (map_same xs)

pub listed_same : {A : Type 0} (see : Json → Option A) (make : A → Json) → ((a : A) → see (make a) ≡ Some a) → (xs : List A) → listed see (json.List (map make xs)) ≡ Some xs
listed_same see make back xs = listed_back see make (λ x. x) back xs ∙ ap Some (map_same xs)
