-- Parts of dotted paths, against texts.
use Rattle.std.proofs.Common.{◌≡◌, refl, ℕ, Bool, true, false, ◌&&◌, ◌||◌, List, [], ◌∷◌, ◌++◌, map, Option, Some, None, eqb, sym, ap, ap₂, ◌∙◌, subst, inl, inr}
use Rattle.std.proofs.lemmas.Bool.{and_from, and_parts, cases_Bool, eq-eqb, eqb-true}
use Rattle.std.proofs.lemmas.Option.{same_Some}
use Rattle.std.proofs.lemmas.Slice.Eq.{bytes_eq-Decides}
use Rattle.std.proofs.lemmas.Str.{chars_from_encodes, encodes-chars, scalars-chars}
use Rattle.std.specs.Bool.{one_answer}
use Rattle.std.specs.Prelude.{nat_eq, option_and_then}
use Rattle.std.specs.Str.{IsUtf8, all_scalars, bytes_eq, chars, encode_utf8_all}
use Rattle.mx_json.specs.Fields.{field}
use Rattle.mx_json.specs.Lookups.{behind_dot, behind_slash, first_part, is_named, later_parts, lookup, marks, parts_of}
use Rattle.mx_json.specs.declared.paths.Mark.{Mark}
use Rattle.mx_json.specs.declared.paths.Mark.TheVariants.{Dot, Of}
use Rattle.mx_json.specs.declared.value.Json.{Json}

-- the first part has just the characters of which it is made
named_are : (ms : List Mark) (ks : List ℕ) → is_named ms ks ≡ true → ks ≡ first_part ms
named_are [] [] e = refl
named_are [] (k ∷ ks) e = absurd cc
named_are (Dot ∷ ms) [] e = refl
named_are (Dot ∷ ms) (k ∷ ks) e = absurd cc
named_are (Of c ∷ ms) [] e = absurd cc
named_are (Of c ∷ ms) (k ∷ ks) e = let parts = and_parts (nat_eq k c) (is_named ms ks) e in ap₂ (λ x xs. x ∷ xs) (eqb-true k c parts.0) (named_are ms ks parts.1)

are_named : (ms : List Mark) → is_named ms (first_part ms) ≡ true
are_named [] = refl
are_named (Dot ∷ ms) = refl
are_named (Of c ∷ ms) = and_from (nat_eq c c) (is_named ms (first_part ms)) (eq-eqb c c refl) (are_named ms)

-- they are characters where those of the path are
mutual
  scalar_parts : (cs : List ℕ) → all_scalars cs ≡ true → all_scalars (first_part (marks cs)) ≡ true
  scalar_parts [] e = refl
  scalar_parts (c ∷ cs) e = elim (cases_Bool (nat_eq c 46)) [
    | inl dot ↦ rw dot refl
    | inr other ↦ rw other (elim (cases_Bool (nat_eq c 92)) [
      | inl slash ↦ rw slash (slash_parts cs (and_parts _ _ e).1)
      | inr plain ↦ rw plain (and_from _ _ (and_parts _ _ e).0 (scalar_parts cs (and_parts _ _ e).1))
    ])
  ]

  slash_parts : (cs : List ℕ) → all_scalars cs ≡ true → all_scalars (first_part (behind_slash cs)) ≡ true
  slash_parts [] e = refl
  slash_parts (d ∷ ds) e = elim (cases_Bool (nat_eq d 46 || nat_eq d 92)) [
    | inl escaped ↦ rw escaped (and_from _ _ (and_parts _ _ e).0 (scalar_parts ds (and_parts _ _ e).1))
    | inr plain ↦ rw plain (and_from _ _ (and_parts _ _ e).0 (scalar_parts ds (and_parts _ _ e).1))
  ]

-- the first part of a path is a key where it has the key's characters
pub named_is : (path key : List ℕ) → IsUtf8 path → IsUtf8 key → is_named (marks (chars path)) (chars key) ≡ bytes_eq key (encode_utf8_all (first_part (marks (chars path))))
named_is path key is_text key_text =
    let ms = marks (chars path) in
    let part = first_part ms in
    let scalar = scalar_parts (chars path) (scalars-chars path is_text) in
    one_answer (is_named ms (chars key)) (bytes_eq key (encode_utf8_all part)) (
      (λ e. sym (encodes-chars key key_text) ∙ ap encode_utf8_all (named_are ms (chars key) e)),
      (λ same. ap (is_named ms) (ap chars same ∙ sym (chars_from_encodes part (encode_utf8_all part) (part, (scalar, refl)) refl)) ∙ are_named ms),
    )
    (bytes_eq-Decides key (encode_utf8_all part))

-- the parts behind the first dot
behind_none : (ms : List Mark) → behind_dot ms ≡ None → later_parts ms ≡ []
behind_none [] e = refl
behind_none (Dot ∷ ms) e = absurd cc
behind_none (Of c ∷ ms) e = behind_none ms e

behind_some : (ms ns : List Mark) → behind_dot ms ≡ Some ns → map encode_utf8_all (later_parts ms) ≡ parts_of ns
behind_some [] ns e = absurd cc
behind_some (Dot ∷ ms) ns e = ap parts_of (same_Some ms ns e)
behind_some (Of c ∷ ms) ns e = behind_some ms ns e

-- one part more was found
pub last_found : (ms : List Mark) (j v : Json) → behind_dot ms ≡ None → field (encode_utf8_all (first_part ms)) j ≡ Some v → lookup (parts_of ms) j ≡ Some v
last_found ms j v none found = ap (option_and_then (lookup (map encode_utf8_all (later_parts ms)))) found ∙ ap (λ ps. lookup (map encode_utf8_all ps) v) (behind_none ms none)

pub part_found : (ms ns : List Mark) (j v : Json) → behind_dot ms ≡ Some ns → field (encode_utf8_all (first_part ms)) j ≡ Some v → lookup (parts_of ms) j ≡ lookup (parts_of ns) v
part_found ms ns j v behind found = ap (option_and_then (lookup (map encode_utf8_all (later_parts ms)))) found ∙ ap (λ ps. lookup ps v) (behind_some ms ns behind)

pub not_found : (ms : List Mark) (j : Json) → field (encode_utf8_all (first_part ms)) j ≡ None → lookup (parts_of ms) j ≡ None
not_found ms j none = ap (option_and_then (lookup (map encode_utf8_all (later_parts ms)))) none
