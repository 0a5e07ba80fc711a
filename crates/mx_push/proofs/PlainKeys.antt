-- Keys of ASCII without dots and backslashes, as first parts of dotted paths that are texts.
use Rattle.std.proofs.Common.{ℕ, ◌≡◌, Bool, true, false, List, [], ◌∷◌, ◌++◌, Option, Some, None, if◌then◌else◌, refl, sym, ap, ap₂, ◌∙◌, append_assoc}
use mathlib.Core.Logic.{◌⊎◌, inl, inr}
use Rattle.std.proofs.lemmas.Bool.{eq-eqb, eqb-true}
use Rattle.std.proofs.lemmas.Option.{none-some, same_Some}
use Rattle.std.proofs.lemmas.Slice.Eq.{bytes_eq-Decides}
use Rattle.std.proofs.lemmas.Str.{IsUtf8-from_ascii, chars-IsAscii, chars_from_encodes, encodes-IsAscii, encodes-chars}
use Rattle.std.specs.Bool.{one_answer}
use Rattle.std.specs.Prelude.{nat_eq}
use Rattle.std.specs.Str.{IsUtf8, bytes_eq, chars, encode_utf8_all}
use Rattle.mx_json.specs.Lookups.{first_part, later_parts, marks}
use Rattle.mx_json.proofs.PlainKeys.{are_ascii, are_plain, first_alone, first_before, later_alone, later_behind, spelled_as}
use Rattle.mx_event.proofs.Texts.{miss}
use Rattle.mx_push.specs.Properties.{behind}

-- what stands behind a front
behind_front : (fs cs : List ℕ) → behind fs (fs ++ cs) ≡ Some cs
behind_front [] cs = refl
behind_front (f ∷ fs) cs = rw (eq-eqb f f refl) (behind_front fs cs)

is_front : (fs cs rest : List ℕ) → behind fs cs ≡ Some rest → cs ≡ fs ++ rest
is_front [] cs rest is = same_Some cs rest is
is_front (f ∷ fs) [] rest is = absurd cc
is_front (f ∷ fs) (c ∷ cs) rest is = by_test (nat_eq c f) refl (is_front fs cs rest) is
  where
    by_test : (b : Bool) → nat_eq c f ≡ b → (behind fs cs ≡ Some rest → cs ≡ fs ++ rest) → (if b then behind fs cs else None) ≡ Some rest → c ∷ cs ≡ (f ∷ fs) ++ rest
    by_test true same later h = ap₂ (λ x xs. x ∷ xs) (eqb-true c f same) (later h)
    by_test false other later h = absurd cc

-- the first part of a path, as a key
abbrev pub first_key : List ℕ → List ℕ
first_key path = encode_utf8_all (first_part (marks (chars path)))

-- the first part of a path, and the path itself, against a key
module _ (path : List ℕ) (text : IsUtf8 path) (k : List ℕ) (plain : are_plain k ≡ true) where
  first_is : first_key path ≡ k → first_part (marks (chars path)) ≡ k
  first_is is = chars_from_encodes (first_part (marks (chars path))) k (IsUtf8-from_ascii k (are_ascii k plain)) is ∙ chars-IsAscii k (are_ascii k plain)

  key_is : first_part (marks (chars path)) ≡ k → first_key path ≡ k
  key_is is = ap encode_utf8_all is ∙ encodes-IsAscii k (are_ascii k plain)

  chars_are : path ≡ k → chars path ≡ k
  chars_are is = ap chars is ∙ chars-IsAscii k (are_ascii k plain)

  path_is : chars path ≡ k → path ≡ k
  path_is is = sym (encodes-chars path text) ∙ ap encode_utf8_all is ∙ encodes-IsAscii k (are_ascii k plain)

  -- behind the key and a dot the path goes on
  pub goes_on : (rest : List ℕ) → behind (k ++ 46 ∷ []) (chars path) ≡ Some rest → (first_key path ≡ k) × (later_parts (marks (chars path)) ≡ first_part (marks rest) ∷ later_parts (marks rest))
  goes_on rest is =
      let whole = is_front (k ++ 46 ∷ []) (chars path) rest is ∙ append_assoc k (46 ∷ []) rest in
      (key_is (ap (λ cs. first_part (marks cs)) whole ∙ first_before k plain rest), ap (λ cs. later_parts (marks cs)) whole ∙ later_behind k plain rest)

  -- a path of one part is a key where its part is
  pub same_test : later_parts (marks (chars path)) ≡ [] → bytes_eq (first_key path) k ≡ bytes_eq path k
  same_test alone = one_answer {P = path ≡ k} (bytes_eq (first_key path) k) (bytes_eq path k)
      ((λ b. to_path (spelled_as k (chars path) plain (first_is ((bytes_eq-Decides (first_key path) k).0 b)))), (λ is. (bytes_eq-Decides (first_key path) k).1 (to_key is)))
      (bytes_eq-Decides path k)
    where
      to_path : (chars path ≡ k) ⊎ ((rest : List ℕ) × (chars path ≡ k ++ 46 ∷ rest)) → path ≡ k
      to_path (inl is) = path_is is
      to_path (inr is) = let bad : [] ≡ first_part (marks is.0) ∷ later_parts (marks is.0) = sym alone ∙ ap (λ cs. later_parts (marks cs)) is.1 ∙ later_behind k plain is.0 in absurd cc

      to_key : path ≡ k → first_key path ≡ k
      to_key is = key_is (ap (λ cs. first_part (marks cs)) (chars_are is) ∙ first_alone k plain)

  -- a path of more parts is no key, and its first one is such a key alone behind which it goes on
  module _ (p : List ℕ) (ps : List (List ℕ)) (more : later_parts (marks (chars path)) ≡ p ∷ ps) where
    no_key : chars path ≡ k → ⊥
    no_key is = let bad : p ∷ ps ≡ [] = sym more ∙ ap (λ cs. later_parts (marks cs)) is ∙ later_alone k plain in absurd cc

    pub not_path : bytes_eq path k ≡ false
    not_path = miss path k (λ is. no_key (chars_are (sym is)))

    pub not_first : behind (k ++ 46 ∷ []) (chars path) ≡ None → bytes_eq (first_key path) k ≡ false
    not_first none = miss (first_key path) k (λ is. by_spelling (spelled_as k (chars path) plain (first_is (sym is))))
      where
        by_spelling : (chars path ≡ k) ⊎ ((rest : List ℕ) × (chars path ≡ k ++ 46 ∷ rest)) → ⊥
        by_spelling (inl is) = no_key is
        by_spelling (inr is) = none-some is.0 (sym none ∙ ap (behind (k ++ 46 ∷ [])) (is.1 ∙ sym (append_assoc k (46 ∷ []) is.0)) ∙ behind_front (k ++ 46 ∷ []) is.0)
