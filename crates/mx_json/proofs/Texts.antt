-- The compact text of each form of value.
use Rattle.std.proofs.Common.{◌≡◌, ℕ, ℤ, List, [], ◌∷◌, ◌++◌, Bool, true, false, pos, negsuc, refl, ap, ◌∙◌}
use Rattle.std.specs.Fmt.{signed_decimal}
use Rattle.json.specs.Print.{quoted, token_text}
use Rattle.json.specs.Token.{Token}
use Rattle.serde_json.specs.Find.{of_integer}
use Rattle.serde_json.specs.Written.{compact_text, comma_if, items_text, members_text, number_text}
use Rattle.mx_json.specs.Texts.{json_text, list_text, object_text}
use Rattle.mx_json.specs.Values.{items_data, members_data}
use Rattle.mx_json.specs.declared.members.Member.{Member}
use Rattle.mx_json.specs.declared.value.Json as json
use Rattle.mx_json.specs.declared.value.Json.{Json}
use Rattle.mx_json.proofs.Data.{data-Null, data-Bool, data-Int, data-Text, data-List, data-Object}

pub text-Null : json_text json.Null ≡ token_text Token.null
text-Null = ap compact_text data-Null

pub text-Bool : (b : Bool) → json_text (json.Bool b) ≡ token_text (Token.boolean b)
text-Bool b = ap compact_text (data-Bool b)

pub integer_text : (z : ℤ) → number_text (of_integer z) ≡ signed_decimal z
integer_text (pos n) = refl
integer_text (negsuc n) = refl

pub text-Int : (z : ℤ) → json_text (json.Int z) ≡ signed_decimal z
text-Int z = ap compact_text (data-Int z) ∙ integer_text z

pub text-Text : (s : List ℕ) → json_text (json.Text s) ≡ quoted s
text-Text s = ap compact_text (data-Text s)

items_text-list_text : (later : Bool) (js : List Json) → items_text later (items_data js) ≡ list_text later js
items_text-list_text later [] = refl
items_text-list_text later (j ∷ js) = ap (λ s. comma_if later ++ (json_text j ++ s)) (items_text-list_text true js)

pub text-List : (js : List Json) → json_text (json.List js) ≡ 91 ∷ list_text false js
text-List js = ap compact_text (data-List js) ∙ ap (λ s. 91 ∷ s) (items_text-list_text false js)

members_text-object_text : (later : Bool) (ms : List (Member Json)) → members_text later (members_data ms) ≡ object_text later ms
members_text-object_text later [] = refl
members_text-object_text later (m ∷ ms) = ap (λ s. comma_if later ++ (quoted m.key ++ 58 ∷ (json_text m.value ++ s))) (members_text-object_text true ms)

pub text-Object : (ms : List (Member Json)) → json_text (json.Object ms) ≡ 123 ∷ object_text false ms
text-Object ms = ap compact_text (data-Object ms) ∙ ap (λ s. 123 ∷ s) (members_text-object_text false ms)
