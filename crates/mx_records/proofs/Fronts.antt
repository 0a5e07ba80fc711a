-- The text of a store, from its front, its first position and its end.
use Rattle.std.proofs.Common.{◌≡◌, ℕ, List, [], ◌∷◌, ◌++◌, map, decimal, sym, ap, ◌∙◌, append_assoc}
use Rattle.std.specs.Prelude.{pos}
use Rattle.mx_json.specs.Texts.{json_text}
use Rattle.mx_json.specs.declared.value.Json.{Json}
use Rattle.mx_json.specs.declared.value.Json.TheVariants as json
use Rattle.mx_json.proofs.Texts.{text-Int, text-List}
use Rattle.mx_records.specs.Texts.{FrontsBegin}
use Rattle.mx_records.specs.Values.{nat_json}

-- three texts, each with a comma behind it, and then another one
three : (a b c d : List ℕ) → (91 ∷ (a ++ 44 ∷ (b ++ 44 ∷ [])) ++ (c ++ 44 ∷ [])) ++ d ≡ 91 ∷ (a ++ 44 ∷ (b ++ 44 ∷ (c ++ 44 ∷ d)))
three a b c d =
    append_assoc (91 ∷ (a ++ 44 ∷ (b ++ 44 ∷ []))) (c ++ 44 ∷ []) d
    ∙ ap (λ t. (91 ∷ (a ++ 44 ∷ (b ++ 44 ∷ []))) ++ t) (append_assoc c (44 ∷ []) d)
    ∙ ap (λ t. 91 ∷ t) (append_assoc a (44 ∷ (b ++ 44 ∷ [])) (c ++ 44 ∷ d) ∙ ap (λ t. a ++ 44 ∷ t) (append_assoc b (44 ∷ []) (c ++ 44 ∷ d)))

pub fronts : {A : Type 0} (f : A → Json) → FrontsBegin f
fronts f l =
    three (json_text (json.Text l.name)) (json_text (nat_json l.writer)) (json_text (json.List (map f l.items))) (decimal l.first ++ 93 ∷ [])
    ∙ ap (λ t. 91 ∷ (json_text (json.Text l.name) ++ 44 ∷ (json_text (nat_json l.writer) ++ 44 ∷ (json_text (json.List (map f l.items)) ++ 44 ∷ (t ++ 93 ∷ []))))) (sym (text-Int (pos l.first)))
    ∙ sym (text-List (json.Text l.name ∷ nat_json l.writer ∷ json.List (map f l.items) ∷ nat_json l.first ∷ []))
