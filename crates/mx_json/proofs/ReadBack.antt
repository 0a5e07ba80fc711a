-- The compact text of a value reads back as the value.
use Rattle.std.proofs.Common.{◌≡◌, ◌≤◌, ◌<◌, ◌^◌, suc, max, ℤ, pos, negsuc, List, [], ◌∷◌, ◌++◌, Bool, true, false, Option, Some, Ok, IsUtf8, option_map, option_and_then, refl, sym, ap, ap₂, subst, ◌∙◌, arith, append_assoc, append-nil}
use Rattle.std.proofs.lemmas.Bool.{and_parts, or_parts}
use Rattle.std.proofs.lemmas.Bool.Decides.{nat_tests}
use Rattle.std.proofs.lemmas.Fmt.{IsAscii-signed}
use Rattle.std.proofs.lemmas.List.{map-append}
use Rattle.std.proofs.lemmas.Str.{IsUtf8-append, IsUtf8-nil, IsUtf8-from_ascii, IsUtf8-from_is_utf8}
use Rattle.std.specs.Str.{is_utf8}
use Rattle.std.specs.Int.Signed.{mag}
use Rattle.std.specs.List.{AllByRecursion}
use Rattle.json.specs.Json.{value, if_last}
use Rattle.json.specs.Json as parsed
use Rattle.json.specs.Lex.{tokens}
use Rattle.json.specs.Print.{IsNumber}
use Rattle.json.specs.Token.{Token}
use Rattle.json.specs.Tree as tree
use Rattle.json.proofs.Printed.Decimals.{IsNumber-signed_decimal}
use Rattle.json.proofs.Printed.Tokens.{tokens-print}
use Rattle.json.proofs.Printed.Trees.{ArePrintable-json_tokens, value-json_tokens}
use Rattle.json.proofs.Printed.Utf8.{IsUtf8-quoted, IsUtf8-boolean, IsUtf8-are_ascii}
use Rattle.serde_json.specs.Data.{Data, null, boolean, number, string, array, object, Items, no_items, item, Members, no_members, member, put, depth, items_depth, members_depth}
use Rattle.serde_json.specs.Find.{of_integer}
use Rattle.serde_json.specs.Read.{max_depth, number_of, of_json, of_items, of_members}
use Rattle.serde_json.specs.Written.{number_text, outline, items_outline, members_outline, comma_if, compact_text, items_text, members_text}
use Rattle.serde_json.proofs.Numbers.{number_of-decimal, number_of-negative}
use Rattle.serde_json.proofs.Texts.{print-outline}
use Rattle.mx_json.specs.Keys.{keys_of, are_ordered}
use Rattle.mx_json.specs.Laws.{IsInRange, is_formed, items_are_formed, members_are_formed, data_keys}
use Rattle.mx_json.specs.Numbers.{is_large, has_large, any_in_items, any_in_members}
use Rattle.mx_json.specs.Reading.{read_json}
use Rattle.mx_json.specs.Texts.{json_text}
use Rattle.mx_json.specs.Values.{data_of, items_data, members_data}
use Rattle.mx_json.specs.declared.members.Member.{Member}
use Rattle.mx_json.specs.declared.value.Json.{Json}
use Rattle.mx_json.proofs.Data.{data-Null, data-Bool, data-Int, data-Text, data-List, data-Object}
use Rattle.mx_json.proofs.Induction.{by_cases}
use Rattle.mx_json.proofs.Order.{ordered_front, put_above}
use Rattle.mx_json.proofs.Reading.{reads_as}
use Rattle.mx_json.proofs.Texts.{integer_text}

-- the text of the data is UTF-8, and its tokens read as the data
record Comes (d : Data) : Type 0 where
  numbers : tree.HasNumbers (outline d)
  same : of_json (outline d) ≡ Some d
  utf8 : IsUtf8 (compact_text d)

abbrev Returns : Json → Type 0
Returns j = has_large (data_of j) ≡ false → is_formed (data_of j) ≡ true → Comes (data_of j)

comma_utf8 : (later : Bool) → IsUtf8 (comma_if later)
comma_utf8 true = IsUtf8-are_ascii (44 ∷ []) refl
comma_utf8 false = IsUtf8-nil

small : (z : ℤ) → is_large (of_integer z) ≡ false → mag z < 2 ^ 63
small (pos n) h = grind (arith, nat_tests)
small (negsuc n) h = grind (arith, nat_tests)

integer_reads : (z : ℤ) → mag z < 2 ^ 63 → number_of (number_text (of_integer z)) ≡ Some (of_integer z)
integer_reads (pos n) h = number_of-decimal n (omega arith)
integer_reads (negsuc n) h = number_of-negative n (omega arith)

integer_comes : (z : ℤ) → is_large (of_integer z) ≡ false → Comes (number (of_integer z))
integer_comes z h =
    let fits = small z h in
    let text = sym (integer_text z) in
    record {
      numbers = subst IsNumber text (IsNumber-signed_decimal z fits);
      same = ap (option_map number) (integer_reads z fits);
      utf8 = subst IsUtf8 text (IsUtf8-from_ascii _ (IsAscii-signed z fits));
    }

record ItemsCome (ds : Items) : Type 0 where
  numbers : tree.ItemsHaveNumbers (items_outline ds)
  same : of_items (items_outline ds) ≡ Some ds
  utf8 : (later : Bool) → IsUtf8 (items_text later ds)

items_come : (js : List Json) → AllByRecursion Returns js → any_in_items is_large (items_data js) ≡ false → items_are_formed (items_data js) ≡ true → ItemsCome (items_data js)
items_come [] all h formed = record { numbers = tt; same = refl; utf8 = λ later. IsUtf8-are_ascii (93 ∷ []) refl }
items_come (j ∷ js) all h formed =
    let range = or_parts (has_large (data_of j)) _ h in
    let parts = and_parts (is_formed (data_of j)) _ formed in
    let first = all.0 range.0 parts.0 in
    let rest = items_come js all.1 range.1 parts.1 in
    record {
      numbers = (first.numbers, rest.numbers);
      same = ap (option_and_then (λ d. option_map (item d) (of_items (items_outline (items_data js))))) first.same ∙ ap (option_map (item (data_of j))) rest.same;
      utf8 = λ later. IsUtf8-append _ _ (comma_utf8 later) (IsUtf8-append _ _ first.utf8 (rest.utf8 true));
    }

keys-members_data : (ms : List (Member Json)) → data_keys (members_data ms) ≡ keys_of ms
keys-members_data [] = refl
keys-members_data (m ∷ ms) = ap (λ ks. m.key ∷ ks) (keys-members_data ms)

record MembersCome (ms : List (Member Json)) : Type 0 where
  numbers : tree.MembersHaveNumbers (members_outline (members_data ms))
  same : (front : List (Member Json)) → are_ordered (keys_of (front ++ ms)) ≡ true → of_members (members_outline (members_data ms)) (members_data front) ≡ Some (members_data (front ++ ms))
  utf8 : (later : Bool) → IsUtf8 (members_text later (members_data ms))

next_member : (front : List (Member Json)) (m : Member Json) (ms : List (Member Json)) → are_ordered (keys_of (front ++ m ∷ ms)) ≡ true → put m.key (data_of m.value) (members_data front) ≡ members_data (front ++ m ∷ [])
next_member front m ms order =
    let split = sym (map-append (λ x. x.key) (front ++ m ∷ []) ms) ∙ ap keys_of (append_assoc front (m ∷ []) ms) in
    put_above front m (ordered_front (keys_of (front ++ m ∷ [])) (keys_of ms) (ap are_ordered split ∙ order))

members_come : (ms : List (Member Json)) → AllByRecursion (λ m. Returns m.value) ms → any_in_members is_large (members_data ms) ≡ false → members_are_formed (members_data ms) ≡ true → MembersCome ms
members_come [] all h formed = record { numbers = tt; same = λ front order. ap (λ l. Some (members_data l)) (sym (append-nil front)); utf8 = λ later. IsUtf8-are_ascii (125 ∷ []) refl }
members_come (m ∷ ms) all h formed =
    let range = or_parts (has_large (data_of m.value)) _ h in
    let parts = and_parts (is_utf8 m.key) _ formed in
    let inner = and_parts (is_formed (data_of m.value)) _ parts.1 in
    let first = all.0 range.0 inner.0 in
    let rest = members_come ms all.1 range.1 inner.1 in
    record {
      numbers = (first.numbers, rest.numbers);
      same = λ front order.
          ap (option_and_then (λ d. of_members (members_outline (members_data ms)) (put m.key d (members_data front)))) first.same
          ∙ ap (of_members (members_outline (members_data ms))) (next_member front m ms order)
          ∙ rest.same (front ++ m ∷ []) (ap (λ l. are_ordered (keys_of l)) (append_assoc front (m ∷ []) ms) ∙ order)
          ∙ ap (λ l. Some (members_data l)) (append_assoc front (m ∷ []) ms);
      utf8 = λ later. IsUtf8-append _ _ (comma_utf8 later)
          (IsUtf8-append _ _ (IsUtf8-quoted m.key (IsUtf8-from_is_utf8 m.key parts.0))
          (IsUtf8-append (58 ∷ []) _ (IsUtf8-are_ascii (58 ∷ []) refl) (IsUtf8-append _ _ first.utf8 (rest.utf8 true))));
    }

list_comes : (js : List Json) → AllByRecursion Returns js → has_large (array (items_data js)) ≡ false → is_formed (array (items_data js)) ≡ true → Comes (array (items_data js))
list_comes js all h formed =
    let inner = items_come js all h formed in
    record {
      numbers = inner.numbers;
      same = ap (option_map array) inner.same;
      utf8 = IsUtf8-append (91 ∷ []) _ (IsUtf8-are_ascii (91 ∷ []) refl) (inner.utf8 false);
    }

object_comes : (ms : List (Member Json)) → AllByRecursion (λ m. Returns m.value) ms → has_large (object (members_data ms)) ≡ false → is_formed (object (members_data ms)) ≡ true → Comes (object (members_data ms))
object_comes ms all h formed =
    let parts = and_parts (are_ordered (data_keys (members_data ms))) _ formed in
    let inner = members_come ms all h parts.1 in
    record {
      numbers = inner.numbers;
      same = ap (option_map object) (inner.same [] (ap are_ordered (sym (keys-members_data ms)) ∙ parts.0));
      utf8 = IsUtf8-append (123 ∷ []) _ (IsUtf8-are_ascii (123 ∷ []) refl) (inner.utf8 false);
    }

-- what holds of the data holds of the value
abbrev ReturnsAs : Data → Type 0
ReturnsAs d = has_large d ≡ false → is_formed d ≡ true → Comes d

returns : (j : Json) → Returns j
returns = by_cases Returns record {
  null = subst ReturnsAs (sym data-Null) (λ h formed. record { numbers = tt; same = refl; utf8 = IsUtf8-are_ascii _ refl });
  boolean = λ b. subst ReturnsAs (sym (data-Bool b)) (λ h formed. record { numbers = tt; same = refl; utf8 = IsUtf8-boolean b });
  int = λ z. subst ReturnsAs (sym (data-Int z)) (λ h formed. integer_comes z h);
  text = λ s. subst ReturnsAs (sym (data-Text s)) (λ h formed. record { numbers = tt; same = refl; utf8 = IsUtf8-quoted s (IsUtf8-from_is_utf8 s formed) });
  list = λ js all. subst ReturnsAs (sym (data-List js)) (list_comes js all);
  object = λ ms all. subst ReturnsAs (sym (data-Object ms)) (object_comes ms all);
}

mutual
  depth-outline : (d : Data) → tree.depth (outline d) ≡ depth d
  depth-outline null = refl
  depth-outline (boolean b) = refl
  depth-outline (number n) = refl
  depth-outline (string s) = refl
  depth-outline (array ds) = ap suc (depth-items_outline ds)
  depth-outline (object ms) = ap suc (depth-members_outline ms)

  depth-items_outline : (ds : Items) → tree.items_depth (items_outline ds) ≡ items_depth ds
  depth-items_outline no_items = refl
  depth-items_outline (item d ds) = ap₂ max (depth-outline d) (depth-items_outline ds)

  depth-members_outline : (ms : Members) → tree.members_depth (members_outline ms) ≡ members_depth ms
  depth-members_outline no_members = refl
  depth-members_outline (member k d ms) = ap₂ max (depth-outline d) (depth-members_outline ms)

-- the data of what was parsed
abbrev whole : Option (parsed.Json × List Token) → Option Data
whole o = option_and_then of_json (option_and_then (λ p. if_last p.0 p.1) o)

pub reads_back : (j : Json) → IsInRange j → is_formed (data_of j) ≡ true → depth (data_of j) ≤ max_depth → read_json (json_text j) ≡ Ok j
reads_back j range formed deep =
    let d = data_of j in
    let all = returns j range formed in
    let ts = tree.json_tokens (outline d) in
    let shallow : tree.depth (outline d) ≤ max_depth = subst (λ n. n ≤ max_depth) (sym (depth-outline d)) deep in
    let printed = ap tokens (sym (print-outline d)) ∙ tokens-print ts (ArePrintable-json_tokens (outline d) all.numbers) ∙ sym (append-nil ts) in
    reads_as (json_text j) j all.utf8 (ap (λ l. whole (value max_depth l)) printed ∙ ap whole (value-json_tokens (outline d) max_depth [] shallow) ∙ all.same) range
