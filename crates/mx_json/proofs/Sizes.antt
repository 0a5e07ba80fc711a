-- The lengths of the parts of a compact text.
use Rattle.std.proofs.Common.{◌≡◌, ℕ, ◌+◌, ◌-◌, ◌==◌, min, take, List, [], ◌∷◌, ◌++◌, ◌/◌, ◌%◌, ◌^◌, ◌<◌, ◌≤◌, length, decimal, true, false, true≢false, refl, ap, ◌∙◌, length-append, append-nil, arith}
use Rattle.std.proofs.lemmas.Fmt.{decimal_step, decimal_digit, length-decimal-le}
use Rattle.std.proofs.lemmas.List.{length_push, take_all}
use Rattle.json.specs.Print.{quoted, escape, escape_byte}
use Rattle.mx_json.specs.Texts.{json_text, list_text, object_text, members_len}
use Rattle.mx_json.specs.declared.members.Member.{Member}
use Rattle.mx_json.specs.declared.value.Json.{Json}

pub quoted_len : (s : List ℕ) → length (quoted s) ≡ 2 + length (escape s)
quoted_len s = omega (arith, length-append (escape s) (34 ∷ []))

pub escape_more : (s : List ℕ) (b : ℕ) → length (escape (s ++ b ∷ [])) ≡ length (escape s) + length (escape_byte b)
escape_more [] b = omega (arith, ap length (append-nil (escape_byte b)))
escape_more (a ∷ s) b = omega (arith, length-append (escape_byte a) (escape (s ++ b ∷ [])), length-append (escape_byte a) (escape s), escape_more s b)

-- of items, each with the comma or the bracket behind it
abbrev pub items_len : List Json → ℕ
items_len [] = 0
items_len (j ∷ js) = length (json_text j) + 1 + items_len js

items_len_more : (js : List Json) (j : Json) → items_len (js ++ j ∷ []) ≡ items_len js + length (json_text j) + 1
items_len_more [] j = omega arith
items_len_more (i ∷ js) j = omega (arith, items_len_more js j)

members_len_more : (ms : List (Member Json)) (m : Member Json) → members_len (ms ++ m ∷ []) ≡ members_len ms + length (quoted m.key) + length (json_text m.value) + 2
members_len_more [] m = omega arith
members_len_more (n ∷ ms) m = omega (arith, members_len_more ms m)

later_items : (js : List Json) → length (list_text true js) ≡ items_len js + 1
later_items [] = omega arith
later_items (j ∷ js) = omega (arith, length-append (json_text j) (list_text true js), later_items js)

list_len : (js : List Json) → (length js == 0) ≡ false → length (list_text false js) ≡ items_len js
list_len [] some = absurd (true≢false some)
list_len (j ∷ js) some = omega (arith, length-append (json_text j) (list_text true js), later_items js)

later_members : (ms : List (Member Json)) → length (object_text true ms) ≡ members_len ms + 1
later_members [] = omega arith
later_members (m ∷ ms) =
    let rest = json_text m.value ++ object_text true ms in
    omega (arith, length-append (quoted m.key) (58 ∷ rest), length-append (json_text m.value) (object_text true ms), later_members ms)

pub object_len : (ms : List (Member Json)) → (length ms == 0) ≡ false → length (object_text false ms) ≡ members_len ms
object_len [] some = absurd (true≢false some)
object_len (m ∷ ms) some =
    let rest = json_text m.value ++ object_text true ms in
    omega (arith, length-append (quoted m.key) (58 ∷ rest), length-append (json_text m.value) (object_text true ms), later_members ms)

-- one more item, where each sum stops at the largest number
pub one_item : (js : List Json) (i : ℕ) (j : Json) (size got sum next : ℕ) → take (i + 1) js ≡ take i js ++ j ∷ [] → size ≡ min (1 + items_len (take i js)) (2 ^ 64 - 1)
    → got ≡ min (length (json_text j)) (2 ^ 64 - 1) → sum ≡ min (size + got) (2 ^ 64 - 1) → next ≡ min (sum + 1) (2 ^ 64 - 1) → next ≡ min (1 + items_len (take (i + 1) js)) (2 ^ 64 - 1)
one_item js i j size got sum next more before value first second = omega (arith, ap items_len more ∙ items_len_more (take i js) j, before, value, first, second)

pub all_items : (js shown : List Json) (i size : ℕ) → shown ≡ js → (length js == 0) ≡ false → length shown ≤ i → size ≡ min (1 + items_len (take i shown)) (2 ^ 64 - 1)
    → size ≡ min (length (91 ∷ list_text false js)) (2 ^ 64 - 1)
all_items js shown i size same some past is =
    let all = ap items_len (take_all i shown past ∙ same) in
    omega (arith, is, all, list_len js some)

pub one_member : (ms : List (Member Json)) (i : ℕ) (m : Member Json) (size key named got sum next : ℕ) → take (i + 1) ms ≡ take i ms ++ m ∷ [] → size ≡ min (1 + members_len (take i ms)) (2 ^ 64 - 1)
    → key ≡ min (length (quoted m.key)) (2 ^ 64 - 1) → named ≡ min (size + key) (2 ^ 64 - 1) → got ≡ min (length (json_text m.value)) (2 ^ 64 - 1) → sum ≡ min (named + got) (2 ^ 64 - 1)
    → next ≡ min (sum + 2) (2 ^ 64 - 1) → next ≡ min (1 + members_len (take (i + 1) ms)) (2 ^ 64 - 1)
one_member ms i m size key named got sum next more before k first value second third = omega (arith, ap members_len more ∙ members_len_more (take i ms) m, before, k, first, value, second, third)

pub all_members : (ms shown : List (Member Json)) (i size : ℕ) → shown ≡ ms → (length ms == 0) ≡ false → length shown ≤ i → size ≡ min (1 + members_len (take i shown)) (2 ^ 64 - 1)
    → size ≡ min (length (123 ∷ object_text false ms)) (2 ^ 64 - 1)
all_members ms shown i size same some past is =
    let all = ap members_len (take_all i shown past ∙ same) in
    omega (arith, is, all, object_len ms some)

pub none_listed : (js : List Json) → length js ≡ 0 → length (list_text false js) ≡ 1
none_listed [] none = refl
none_listed (j ∷ js) none = absurd (omega (arith, none))

pub no_members : (ms : List (Member Json)) → length ms ≡ 0 → length (object_text false ms) ≡ 1
no_members [] none = refl
no_members (m ∷ ms) none = absurd (omega (arith, none))

pub digits_step : (n : ℕ) → 10 ≤ n → n < 2 ^ 64 → length (decimal n) ≡ length (decimal (n / 10)) + 1
digits_step n ten small = ap length (decimal_step n ten small) ∙ length_push (decimal (n / 10)) (48 + n % 10)

pub one_digit : (n : ℕ) → n < 10 → length (decimal n) ≡ 1
one_digit n small = ap length (decimal_digit n small)

pub few_digits : (n : ℕ) → n < 2 ^ 64 → length (decimal n) ≤ 20
few_digits n small = length-decimal-le 20 n (omega arith) (omega (arith, small)) small
