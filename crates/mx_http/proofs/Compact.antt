-- The compact text of a value, cut where it is put in pieces.
use Rattle.std.proofs.Common.{◌≡◌, ℕ, ◌+◌, ◌<◌, ◌≤◌, List, [], ◌∷◌, ◌++◌, Bool, true, take, drop, length, get_or, refl, ap, sym, ◌∙◌, append_assoc, append-nil, arith, cond, nat_lt, subst, ◌/◌, ◌%◌}
use Rattle.std.specs.Char.{digit_char}
use Rattle.std.proofs.lemmas.Bool.{lt-ltb, le-ltb}
use Rattle.std.proofs.lemmas.List.{take-append-drop, drop-drop, drop_all}
use Rattle.std.proofs.lemmas.Grind.{flat_map-append}
use Rattle.json.specs.Print.{escape, escape_byte, escape_letter, quoted}
use Rattle.serde_json.specs.Written.{comma_if}
use Rattle.mx_json.specs.Texts.{json_text, list_text, object_text}
use Rattle.mx_json.specs.declared.members.Member.{Member}
use Rattle.mx_json.specs.declared.value.Json.{Json}
use Rattle.mx_http.proofs.Pieces.{next_item}

pub items_left : (later : Bool) (js : List Json) (i : ℕ) (j : Json) → i < length js → j ≡ get_or js i j
    → list_text later (drop i js) ≡ comma_if later ++ (json_text j ++ list_text true (drop (i + 1) js))
items_left later js i j below is = ap (list_text later) (next_item js i j below is)

pub items_end : (later : Bool) (js : List Json) (i : ℕ) → length js ≤ i → list_text later (drop i js) ≡ 93 ∷ []
items_end later js i past = ap (list_text later) (drop_all i js past)

-- a key with its comma and its colon
abbrev pub key_text : Bool → List ℕ → List ℕ
key_text later key = comma_if later ++ (quoted key ++ 58 ∷ [])

pub members_left : (later : Bool) (ms : List (Member Json)) (i : ℕ) (m : Member Json) → i < length ms → m ≡ get_or ms i m
    → object_text later (drop i ms) ≡ key_text later m.key ++ (json_text m.value ++ object_text true (drop (i + 1) ms))
members_left later ms i m below is =
    let rest = json_text m.value ++ object_text true (drop (i + 1) ms) in
    ap (object_text later) (next_item ms i m below is)
    ∙ sym (append_assoc (comma_if later) (quoted m.key ++ 58 ∷ []) rest ∙ ap (λ l. comma_if later ++ l) (append_assoc (quoted m.key) (58 ∷ []) rest))

pub members_end : (later : Bool) (ms : List (Member Json)) (i : ℕ) → length ms ≤ i → object_text later (drop i ms) ≡ 125 ∷ []
members_end later ms i past = ap (object_text later) (drop_all i ms past)

-- a run of bytes, and what follows it
pub run_cut : (n : ℕ) (bytes : List ℕ) → escape bytes ≡ escape (take n bytes) ++ escape (drop n bytes)
run_cut n bytes = ap escape (sym (take-append-drop n bytes)) ∙ flat_map-append escape_byte (take n bytes) (drop n bytes)

pub runs_left : (done n : ℕ) (bytes : List ℕ) → escape (drop done bytes) ≡ escape (take n (drop done bytes)) ++ escape (drop (done + n) bytes)
runs_left done n bytes = run_cut n (drop done bytes) ∙ ap (λ l. escape (take n (drop done bytes)) ++ escape l) (drop-drop n done bytes)

pub runs_end : (done : ℕ) (bytes : List ℕ) → length bytes ≤ done → escape (drop done bytes) ≡ []
runs_end done bytes past = ap escape (drop_all done bytes past)

pub first_run : (bytes : List ℕ) → 0 < length bytes → escape (take 1 bytes) ≡ escape_byte (get_or bytes 0 0)
first_run [] some = absurd (omega (arith, some))
first_run (b ∷ bytes) some = append-nil (escape_byte b)

-- a run grows by a byte that stands for itself
pub run_more : (bytes : List ℕ) (i b : ℕ) → take (i + 1) bytes ≡ take i bytes ++ b ∷ [] → escape (take i bytes) ≡ take i bytes → escape_byte b ≡ b ∷ []
    → escape (take (i + 1) bytes) ≡ take (i + 1) bytes
run_more bytes i b more before plain =
    ap escape more ∙ flat_map-append escape_byte (take i bytes) (b ∷ []) ∙ ap (λ l. l ++ escape (b ∷ [])) before ∙ ap (λ l. take i bytes ++ l) (append-nil (escape_byte b) ∙ plain) ∙ sym more

short : (e l : ℕ) (rest : List ℕ) → l ≡ e → 0 < l → cond (nat_lt 0 e) (92 ∷ e ∷ []) rest ≡ 92 ∷ l ∷ []
short e l rest is some = subst (λ (z : ℕ). cond (nat_lt 0 z) (92 ∷ z ∷ []) rest ≡ 92 ∷ l ∷ []) is (ap (λ b. cond b (92 ∷ l ∷ []) rest) (lt-ltb 0 l some))

not_short : (e l : ℕ) (some rest : List ℕ) → l ≡ e → l ≡ 0 → cond (nat_lt 0 e) some rest ≡ rest
not_short e l some rest is none = subst (λ (z : ℕ). cond (nat_lt 0 z) some rest ≡ rest) (sym none ∙ is) refl

-- what stands for a byte, by the letter of its short escape
pub escape_short : (b l : ℕ) → l ≡ escape_letter b → 0 < l → escape_byte b ≡ 92 ∷ l ∷ []
unfolding escape_byte
escape_short b l is some = short (escape_letter b) l _ is some

pub escape_control : (b l high low : ℕ) → l ≡ escape_letter b → l ≡ 0 → b < 32 → high ≡ digit_char (b / 16) → low ≡ digit_char (b % 16)
    → escape_byte b ≡ 92 ∷ 117 ∷ 48 ∷ 48 ∷ high ∷ low ∷ []
unfolding escape_byte
escape_control b l high low is none control h k =
    not_short (escape_letter b) l _ _ is none ∙ ap (λ t. cond t (92 ∷ 117 ∷ 48 ∷ 48 ∷ digit_char (b / 16) ∷ digit_char (b % 16) ∷ []) (b ∷ [])) (lt-ltb b 32 control)
    ∙ ap (λ x. 92 ∷ 117 ∷ 48 ∷ 48 ∷ x ∷ digit_char (b % 16) ∷ []) (sym h) ∙ ap (λ x. 92 ∷ 117 ∷ 48 ∷ 48 ∷ high ∷ x ∷ []) (sym k)

pub escape_none : (b l : ℕ) → l ≡ escape_letter b → l ≡ 0 → 32 ≤ b → escape_byte b ≡ b ∷ []
unfolding escape_byte
escape_none b l is none plain =
    not_short (escape_letter b) l _ _ is none ∙ ap (λ t. cond t (92 ∷ 117 ∷ 48 ∷ 48 ∷ digit_char (b / 16) ∷ digit_char (b % 16) ∷ []) (b ∷ [])) (le-ltb b 32 plain)
