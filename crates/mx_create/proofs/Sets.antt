-- Sets of user ids, to which ids are added and from which they are removed.
use Rattle.std.proofs.Common.{◌≡◌, ◌↔◌, ℕ, ◌+◌, take, cond, codes, Option, Some, None, List, [], ◌∷◌, ◌++◌, length, Bool, true, false, not, ◌&&◌, ◌||◌, Bor, refl, sym, ap, ◌∙◌, arith, Ordering, nat_cmp}
use Rattle.std.proofs.lemmas.Bool.{cases_Bool, and_parts, and_from, and_left, and_right, or_left, or_right, or_cases, not-true, not_from_false, true≢false}
use Rattle.std.proofs.lemmas.List.Folds.{list_any-append, list_all-append}
use Rattle.std.proofs.lemmas.Map.Text.{is_eq-slice_cmp}
use Rattle.std.proofs.lemmas.Slice.Eq.{bytes_eq-Decides}
use Rattle.std.specs.BTreeMap.{is_at}
use Rattle.std.specs.BTreeSet as sorted
use Rattle.std.specs.Cmp.Lexicographic.{slice_cmp}
use Rattle.std.specs.List.{list_all, list_any, filter_map, cons_option}
use Rattle.std.specs.Option.{option_to_list}
use Rattle.std.specs.Str.{bytes_eq}
use mathlib.Core.Logic.{⊎_elim}
use Rattle.mx_ids.specs.declared.users.Users.{Users}
use Rattle.mx_json.specs.Fields.{text_at}
use Rattle.mx_json.specs.declared.value.Json.{Json}
use Rattle.mx_create.specs.Bodies.{invited, listed}
use Rattle.mx_create.specs.Blocks.{are_known, invites, invites_known, is_known, text_or_empty}
use Rattle.mx_create.proofs.Listed.{more_listed}
use Rattle.mx_create.specs.Strangers.{Ids, Adds, Removes, has, invited_by, is_in}

abbrev cmp_now : Bor (List ℕ) → Bor (List ℕ) → Ordering
cmp_now x y = slice_cmp nat_cmp x.now y.now

-- an id as a key
abbrev key : List ℕ → Bor (List ℕ)
key id = record { ref_ptr = (0, 0); now = id }

added : (t c : Bool) → cond t true c ≡ (c || (t || false))
added true true = refl
added true false = refl
added false true = refl
added false false = refl

removed : (t c : Bool) → cond t false c ≡ (c && not (t || false))
removed true true = refl
removed true false = refl
removed false true = refl
removed false false = refl

added_both : (a b c : Bool) → ((a || b) || c) ≡ (a || (b || c))
added_both true b c = refl
added_both false b c = refl

removed_both : (a b c : Bool) → ((a && not b) && not c) ≡ (a && not (b || c))
removed_both false b c = refl
removed_both true true c = refl
removed_both true false c = refl

none_added : (a : Bool) → a ≡ (a || false)
none_added true = refl
none_added false = refl

none_removed : (a : Bool) → a ≡ (a && not false)
none_removed true = refl
none_removed false = refl

pub adds_none : (s : Ids) → Adds [] s s
adds_none s id = none_added (has s id)

pub adds_one : (s n : Ids) (k : Bor (List ℕ)) → sorted.Updates cmp_now s n k true → Adds (k.now ∷ []) s n
adds_one s n k is id = is.0 (key id) ∙ ap (λ b. cond b true (has s id)) (is_eq-slice_cmp k.now id) ∙ added (bytes_eq k.now id) (has s id)

pub adds_both : (xs ys : List (List ℕ)) (a b c : Ids) → Adds xs a b → Adds ys b c → Adds (xs ++ ys) a c
adds_both xs ys a b c first second id =
    second id ∙ ap (λ t. t || is_in ys id) (first id) ∙ added_both (has a id) (is_in xs id) (is_in ys id)
    ∙ ap (λ t. has a id || t) (sym (list_any-append (λ x. bytes_eq x id) xs ys))

pub removes_none : (s : Ids) → Removes [] s s
removes_none s id = none_removed (has s id)

pub removes_one : (s n : Ids) (x : List ℕ) → sorted.UpdatesBy cmp_now (λ k. slice_cmp nat_cmp x k.now) s n false → Removes (x ∷ []) s n
removes_one s n x is id = is.0 (key id) ∙ ap (λ b. cond b false (has s id)) (is_eq-slice_cmp x id) ∙ removed (bytes_eq x id) (has s id)

pub removes_both : (xs ys : List (List ℕ)) (a b c : Ids) → Removes xs a b → Removes ys b c → Removes (xs ++ ys) a c
removes_both xs ys a b c first second id =
    second id ∙ ap (λ t. t && not (is_in ys id)) (first id) ∙ removed_both (has a id) (is_in xs id) (is_in ys id)
    ∙ ap (λ t. has a id && not t) (sym (list_any-append (λ x. bytes_eq x id) xs ys))

-- nothing is removed from a set without keys
pub removes_empty : (us : List (List ℕ)) (s : Ids) → length s.keys ≡ 0 → Removes us s s
removes_empty us s none id = inside s.keys none where
  inside : (ks : List (Bor (List ℕ))) → length ks ≡ 0 → list_any (is_at (λ (k : Bor (List ℕ)). slice_cmp nat_cmp id k.now)) ks ≡ (list_any (is_at (λ (k : Bor (List ℕ)). slice_cmp nat_cmp id k.now)) ks && not (is_in us id))
  inside [] none = refl
  inside (k ∷ ks) none = absurd (omega (arith, none))

same : (id : List ℕ) → bytes_eq id id ≡ true
same id = (bytes_eq-Decides id id).1 refl

all_in : (us xs : List (List ℕ)) → ((id : List ℕ) → is_in xs id ≡ true → is_in us id ≡ true) → list_all (is_in us) xs ≡ true
all_in us [] each = refl
all_in us (x ∷ xs) each =
    and_from (is_in us x) (list_all (is_in us) xs) (each x (or_left (bytes_eq x x) (is_in xs x) (same x)))
    (all_in us xs (λ id e. each id (or_right (bytes_eq x id) (is_in xs id) e)))

one_out : (us xs : List (List ℕ)) (id : List ℕ) → is_in xs id ≡ true → is_in us id ≡ false → list_all (is_in us) xs ≡ false
one_out us [] id e out = absurd (true≢false (sym e))
one_out us (x ∷ xs) id e out = ⊎_elim
    (λ here. and_left (is_in us x) (list_all (is_in us) xs) (ap (is_in us) ((bytes_eq-Decides x id).0 here) ∙ out))
    (λ later. and_right (is_in us x) (list_all (is_in us) xs) (one_out us xs id later out))
    (or_cases (bytes_eq x id) (is_in xs id) e)

-- a set without keys: each of the ids that were added was removed
emptied : (us xs : List (List ℕ)) (ks : List (Bor (List ℕ))) → ((id : List ℕ) → list_any (is_at (λ k. slice_cmp nat_cmp id k.now)) ks ≡ (is_in xs id && not (is_in us id)))
    → (b : Bool) → ((b ≡ true) ↔ (length ks ≡ 0)) → b ≡ list_all (is_in us) xs
emptied us xs [] each b is = is.1 refl ∙ sym (all_in us xs (λ id e. ⊎_elim (λ known. known) (λ out. absurd (true≢false (sym (each id ∙ and_from (is_in xs id) (not (is_in us id)) e (not_from_false (is_in us id) out))))) (cases_Bool (is_in us id))))
emptied us xs (k ∷ ks) each b is =
    let first : (is_in xs k.now && not (is_in us k.now)) ≡ true = sym (each k.now) ∙ or_left (is_at (λ (l : Bor (List ℕ)). slice_cmp nat_cmp k.now l.now) k) (list_any (is_at (λ l. slice_cmp nat_cmp k.now l.now)) ks) (is_eq-slice_cmp k.now k.now ∙ same k.now) in
    let parts = and_parts (is_in xs k.now) (not (is_in us k.now)) first in
    let out : list_all (is_in us) xs ≡ false = one_out us xs k.now parts.0 (not-true (is_in us k.now) parts.1) in
    ⊎_elim (λ (e : b ≡ true). let none : length (k ∷ ks) ≡ 0 = is.0 e in absurd (omega arith)) (λ (e : b ≡ false). e ∙ sym out) (cases_Bool b)

first_known : (users : Users) (key : List ℕ) (ids : List (List ℕ)) (rest b : Bool) → list_all (is_known users) ids ≡ rest
    → list_all (is_known users) (cons_option (cond b (Some key) None) ids) ≡ ((not b || is_known users key) && rest)
first_known users key ids rest true e = ap (λ t. is_known users key && t) e
first_known users key ids rest false e = e

-- the entries invite known users where those whom they invite are known
known_initial : (users : Users) (js : List Json) → list_all (is_known users) (filter_map invited_by js) ≡ list_all (invites_known users) js
known_initial users [] = refl
known_initial users (j ∷ js) = first_known users (text_or_empty (text_at (codes "state_key") j)) (filter_map invited_by js) (list_all (invites_known users) js) (invites j) (known_initial users js)

-- one more item of a list, whose id is added where it has one
pub adds_more : (f : Json → Option (List ℕ)) (js : List Json) (i : ℕ) (j : Json) (o : Option (List ℕ)) (a b c : Ids) → take (i + 1) js ≡ take i js ++ j ∷ [] → o ≡ f j
    → Adds (filter_map f (take i js)) a b → Adds (option_to_list o) b c → Adds (filter_map f (take (i + 1) js)) a c
adds_more f js i j o a b c more is first second id =
    adds_both (filter_map f (take i js)) (option_to_list o) a b c first second id
    ∙ ap (λ l. has a id || is_in l id) (more_listed f js i j o more is)

-- one more user is removed
pub removes_more : (us : List (List ℕ)) (i : ℕ) (u x : List ℕ) (a b c : Ids) → take (i + 1) us ≡ take i us ++ u ∷ [] → x ≡ u
    → Removes (take i us) a b → sorted.UpdatesBy cmp_now (λ k. slice_cmp nat_cmp x k.now) b c false → Removes (take (i + 1) us) a c
removes_more us i u x a b c more is first second id =
    removes_both (take i us) (x ∷ []) a b c first (removes_one b c x second) id
    ∙ ap (λ l. has a id && not (is_in l id)) (ap (λ y. take i us ++ y ∷ []) is ∙ sym more)

-- the set is empty once the users are removed from those who are invited, if all of these are known
pub all_known : (users : Users) (ask : Json) (us : List (List ℕ)) (s a b c : Ids) → s.keys ≡ [] → us ≡ users.users
    → Adds (invited ask) s a → Adds (filter_map invited_by (listed (codes "initial_state") ask)) a b → Removes us b c
    → (r : Bool) → ((r ≡ true) ↔ (length c.keys ≡ 0)) → r ≡ are_known users ask
unfolding are_known
all_known users ask us s a b c none whole first second gone r is =
    let xs = invited ask in
    let js = listed (codes "initial_state") ask in
    let ys = filter_map invited_by js in
    let empty : (id : List ℕ) → has s id ≡ false = λ id. ap (λ ks. list_any (is_at (λ (k : Bor (List ℕ)). slice_cmp nat_cmp id k.now)) ks) none in
    let both : Adds (xs ++ ys) s b = adds_both xs ys s a b first second in
    emptied us (xs ++ ys) c.keys (λ id. gone id ∙ ap (λ t. t && not (is_in us id)) (both id ∙ ap (λ t. t || is_in (xs ++ ys) id) (empty id))) r is
    ∙ ap (λ (l : List (List ℕ)). list_all (is_in l) (xs ++ ys)) whole
    ∙ list_all-append (is_known users) xs ys ∙ ap (λ t. list_all (is_known users) xs && t) (known_initial users js)
