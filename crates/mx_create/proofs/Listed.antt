-- What is made of the items of a list one after the other.
use Rattle.std.proofs.Common.{◌≡◌, ℕ, ◌+◌, take, List, [], ◌∷◌, ◌++◌, fold, Option, Some, None, refl, ap, sym, ◌∙◌}
use Rattle.std.proofs.lemmas.List.Elements.{filter_map-append}
use Rattle.std.specs.List.{filter_map, cons_option}
use Rattle.std.specs.Option.{option_to_list}
use Rattle.mx_json.specs.Fields.{text_of}
use Rattle.mx_json.specs.declared.members.Member.{Member}
use Rattle.mx_json.specs.declared.value.Json.{Json}
use Rattle.mx_create.specs.Contents.{with_user}

-- the users that are left get their level after the first one
pub one_user : (ms now : List (Member Json)) (j : Json) (js : List Json) → now ≡ fold with_user ms (option_to_list (text_of j))
    → fold with_user now (filter_map text_of js) ≡ fold with_user ms (filter_map text_of (j ∷ js))
one_user ms now j js is = ap (λ l. fold with_user l (filter_map text_of js)) is ∙ first (text_of j)
  where
    first : (o : Option (List ℕ)) → fold with_user (fold with_user ms (option_to_list o)) (filter_map text_of js) ≡ fold with_user ms (cons_option o (filter_map text_of js))
    first None = refl
    first (Some user) = refl

one_listed : (o : Option (List ℕ)) → option_to_list o ≡ cons_option o []
one_listed None = refl
one_listed (Some x) = refl

-- what is made of one item more of a list
pub more_listed : (f : Json → Option (List ℕ)) (js : List Json) (i : ℕ) (j : Json) (o : Option (List ℕ)) → take (i + 1) js ≡ take i js ++ j ∷ [] → o ≡ f j
    → filter_map f (take i js) ++ option_to_list o ≡ filter_map f (take (i + 1) js)
more_listed f js i j o more is =
    ap (λ l. filter_map f (take i js) ++ l) (one_listed o ∙ ap (λ x. cons_option x []) is) ∙ sym (filter_map-append f (take i js) (j ∷ [])) ∙ ap (filter_map f) (sym more)
