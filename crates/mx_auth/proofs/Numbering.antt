-- The numbers of senders, and the places that they name.
use Rattle.std.proofs.Common.{◌≡◌, ℕ, zero, suc, ◌<◌, Bool, true, false, cond, ◌||◌, List, [], ◌∷◌, ◌++◌, length, map, get_or, Option, Some, None, IfSome, IsSome, is_some, refl, sym, ap, ap₂, subst, ◌∙◌, arith, nat_cmp, length-append}
use Rattle.std.proofs.Math.ListN.{get_or-append}
use Rattle.std.proofs.Math.Seq.{get_or-append_seam}
use Rattle.std.proofs.lemmas.Bool.{or_left, or_right}
use Rattle.std.proofs.lemmas.List.Folds.{list_any-append}
use Rattle.std.proofs.lemmas.List.Sorted.{IsPermutation-insert, list_any-IsPermutation}
use Rattle.std.proofs.lemmas.Map.Text.{btree_map_updates_text}
use Rattle.std.proofs.lemmas.Slice.Eq.{bytes_eq-Decides}
use Rattle.std.specs.BTreeMap as tree
use Rattle.std.specs.BTreeMap.{get_by_text}
use Rattle.std.specs.Cmp.Lexicographic.{slice_cmp}
use Rattle.std.specs.List.{insert}
use Rattle.std.specs.Map.{lookup}
use Rattle.std.specs.Str.{bytes_eq}
use Rattle.std.specs.String.{string_bytes, string_cmp}
use Rattle.mx_window.proofs.Each.{list_any-map}
use Rattle.mx_auth.specs.Placing.{AreNamed, IsNumbered, Longer, Numbers, Place, PlaceTest, any_place, is_in, place_of}
use Rattle.mx_auth.specs.declared.places.SentAt.{SentAt}

-- ---- users

same : (id : List ℕ) → bytes_eq id id ≡ true
same id = (bytes_eq-Decides id id).1 refl

-- a user stays among more
pub still_in : (old new : List (List ℕ)) (user : List ℕ) → Longer old new → is_in old user ≡ true → is_in new user ≡ true
still_in old new user more h =
    ap (λ names. is_in names user) more.1 ∙ list_any-append (λ name. bytes_eq name user) old more.0 ∙ or_left (is_in old user) (is_in more.0 user) h

-- the last one is among them
pub last_in : (names : List (List ℕ)) (user : List ℕ) → is_in (names ++ user ∷ []) user ≡ true
last_in names user =
    list_any-append (λ name. bytes_eq name user) names (user ∷ []) ∙ or_right (is_in names user) (bytes_eq user user || false) (or_left (bytes_eq user user) false (same user))

-- who stands at a number is among them
pub at_in : (names : List (List ℕ)) (n : ℕ) → n < length names → is_in names (get_or names n []) ≡ true
at_in [] n l = absurd (omega (arith, l))
at_in (name ∷ names) zero l = or_left (bytes_eq name name) (is_in names name) (same name)
at_in (name ∷ names) (suc n) l = or_right (bytes_eq name (get_or names n [])) (is_in names (get_or names n [])) (at_in names n (omega (arith, l)))

-- who has a number is among them
pub numbered_in : (names : List (List ℕ)) (m : Numbers) (user : List ℕ) → IsNumbered names m → is_some (get_by_text m user) ≡ true → is_in names user ≡ true
numbered_in names m user h = inside (get_by_text m user) refl where
  inside : (o : Option ℕ) → get_by_text m user ≡ o → is_some o ≡ true → is_in names user ≡ true
  inside None is none = absurd cc
  inside (Some n) is some = let at = h.named user n is in ap (is_in names) (sym at.1) ∙ at_in names n at.0

-- the same of what a reader sees
pub numbered_seen : (seen names : List (List ℕ)) (m : Numbers) (key user : List ℕ) → key ≡ user → names ≡ seen → IsNumbered names m → is_some (get_by_text m key) ≡ true → is_in seen user ≡ true
numbered_seen seen names m key user same is h some = ap₂ is_in (sym is) (sym same) ∙ numbered_in names m key h some

pub named_seen : (seen names : List (List ℕ)) (m : Numbers) (user : List ℕ) (o : Option ℕ) → names ≡ seen → IsNumbered names m → o ≡ get_by_text m user
    → IfSome o (λ n. (n < length seen) × (get_or seen n [] ≡ user))
named_seen seen names m user o is h found = subst (λ ns. IfSome o (λ n. (n < length ns) × (get_or ns n [] ≡ user))) is (inside o found) where
  inside : (p : Option ℕ) → p ≡ get_by_text m user → IfSome p (λ n. (n < length names) × (get_or names n [] ≡ user))
  inside None e = tt
  inside (Some n) e = h.named user n (sym e)

-- nothing changes
pub unchanged_numbered : (names new : List (List ℕ)) (m n : Numbers) → new ≡ names → tree.IsUnchanged m n → IsNumbered names m → IsNumbered new n
unchanged_numbered names new m n is same h =
    let found : (user : List ℕ) → get_by_text n user ≡ get_by_text m user = λ user. ap (lookup (tree.is_at (λ k. slice_cmp nat_cmp user (string_bytes k)))) same in record {
      named = λ user k e. subst (λ ns. (k < length ns) × (get_or ns k [] ≡ user)) (sym is) (h.named user k (sym (found user) ∙ e));
      numbered = λ user e. subst (λ o. IsSome o) (sym (found user)) (h.numbered user (ap (λ ns. is_in ns user) (sym is) ∙ e));
    }

-- ---- a user more gets the next number

abbrev of_some : {A : Type 0} → A → Option A → A
of_some d None = d
of_some d (Some z) = z

named_after : (names : List (List ℕ)) (m : Numbers) (name : List ℕ) → IsNumbered names m → (user : List ℕ) (n : ℕ) (b : Bool) → (b ≡ true → name ≡ user)
    → cond b (Some (length names)) (get_by_text m user) ≡ Some n → (n < length (names ++ name ∷ [])) × (get_or (names ++ name ∷ []) n [] ≡ user)
named_after names m name h user n true same is =
    let last : length names ≡ n = ap (of_some n) is in (
      omega (arith, last, length-append names (name ∷ [])),
      ap (λ k. get_or (names ++ name ∷ []) k []) (sym last) ∙ get_or-append_seam names name [] [] ∙ same refl,
    )
named_after names m name h user n false same is =
    let old = h.named user n is in (
      omega (arith, old.0, length-append names (name ∷ [])),
      get_or-append names (name ∷ []) [] n old.0 ∙ old.1,
    )

some_after : (number : ℕ) (b c : Bool) (o : Option ℕ) → (c ≡ true → IsSome o) → (c || (b || false)) ≡ true → IsSome (cond b (Some number) o)
some_after number true c o h in_one = refl
some_after number false c o h in_one = h (left c in_one) where
  left : (d : Bool) → (d || false) ≡ true → d ≡ true
  left true e = refl
  left false e = e

pub one_numbered : (names : List (List ℕ)) (m n : Numbers) (key name : List ℕ) (number : ℕ) → key ≡ name → number ≡ length names
    → tree.UpdatesBy string_cmp (λ k. slice_cmp nat_cmp key (string_bytes k)) m n (Some number) → IsNumbered names m → IsNumbered (names ++ name ∷ []) n
one_numbered names m n key name number same count h numbered = record {
  named = λ user k is.
      named_after names m name numbered user k (bytes_eq key user) (λ hit. sym same ∙ (bytes_eq-Decides key user).0 hit)
      (ap (λ c. cond (bytes_eq key user) (Some c) (get_by_text m user)) (sym count) ∙ sym (btree_map_updates_text key m n (Some number) h user) ∙ is);
  numbered = λ user is.
      subst (λ o. IsSome o) (sym (btree_map_updates_text key m n (Some number) h user))
      (some_after number (bytes_eq key user) (is_in names user) (get_by_text m user) (numbered.numbered user)
      (ap (λ q. is_in names user || (bytes_eq q user || false)) same ∙ sym (list_any-append (λ x. bytes_eq x user) names (name ∷ [])) ∙ is));
}

-- ---- the places that numbers name

-- more names leave the places
pub still_placed : (old new : List (List ℕ)) (ss : List SentAt) → Longer old new → AreNamed (length old) ss → map (place_of new) ss ≡ map (place_of old) ss
still_placed old new [] more h = refl
still_placed old new (s ∷ ss) more h =
    let name : get_or new s.by [] ≡ get_or old s.by [] = ap (λ names. get_or names s.by []) more.1 ∙ get_or-append old more.0 [] s.by h.0 in
    ap₂ (λ (who : List ℕ) (ps : List Place). record { at = s.at; sender = who } ∷ ps) name (still_placed old new ss more h.1)

pub still_named : (old new : List (List ℕ)) (ss : List SentAt) → Longer old new → AreNamed (length old) ss → AreNamed (length new) ss
still_named old new [] more h = tt
still_named old new (s ∷ ss) more h = (omega (arith, h.0, ap length more.1, length-append old more.0), still_named old new ss more h.1)

-- a place more is named
pub put_named : (n : ℕ) (ss : List SentAt) (i : ℕ) (s : SentAt) → s.by < n → AreNamed n ss → AreNamed n (insert ss i s)
put_named n ss zero s here h = (here, h)
put_named n [] (suc i) s here h = (here, tt)
put_named n (t ∷ ss) (suc i) s here h = (h.0, put_named n ss i s here h.1)

-- a place more is found by each test that it passes
pub any_put : (names : List (List ℕ)) (test : PlaceTest) (ss : List SentAt) (i : ℕ) (s : SentAt) (sender : List ℕ) → get_or names s.by [] ≡ sender
    → any_place test (map (place_of names) (insert ss i s)) ≡ (test s.at sender || any_place test (map (place_of names) ss))
any_put names test ss i s sender is =
    list_any-map (λ (p : Place). test p.at p.sender) (place_of names) (insert ss i s)
    ∙ sym (list_any-IsPermutation (λ (t : SentAt). test t.at (get_or names t.by [])) (s ∷ ss) (insert ss i s) (IsPermutation-insert ss i s))
    ∙ ap₂ (λ who b. test s.at who || b) is (sym (list_any-map (λ (p : Place). test p.at p.sender) (place_of names) ss))
