-- The lengths of members and of ids.
use Rattle.std.proofs.Common.{◌≡◌, ℕ, zero, suc, ◌+◌, ◌-◌, ◌*◌, ◌/◌, ◌%◌, ◌^◌, ◌<◌, ◌≤◌, min, length, List, [], ◌∷◌, ◌++◌, decimal, sym, ap, ◌∙◌, arith, length-append, true, pos, codes, option_map, ne_eqb, ◌≢◌}
use Rattle.std.proofs.lemmas.Bool.{cases_lt, le-ltb}
use Rattle.std.proofs.lemmas.List.{length_push}
use mathlib.Core.Logic.{⊎_elim}
use Rattle.json.specs.Print.{quoted, escape, escape_byte}
use Rattle.mx_ids.specs.Decimal.{numeral}
use Rattle.mx_ids.specs.Ids.{event_id_text, room_id_text}
use Rattle.mx_ids.proofs.Numerals.{decimal-numeral, numeral_push, numeral-zero, numeral_one}
use Rattle.mx_json.specs.Numbers.{largest}
use Rattle.mx_json.specs.Texts.{json_text, members_len}
use Rattle.mx_json.specs.declared.members.Member.{Member}
use Rattle.mx_json.specs.declared.value.Json as json
use Rattle.mx_json.specs.declared.value.Json.{Json}
use Rattle.mx_event.specs.Forms.{bare_form, event_members, member, member_if, redacts_of}
use Rattle.mx_event.specs.declared.event.Event.{Event}
use Rattle.mx_json.proofs.Sizes.{quoted_len, object_len}
use Rattle.mx_json.proofs.Texts.{text-Text, text-Object, text-Int}

pub members_len-append : (ms ns : List (Member Json)) → members_len (ms ++ ns) ≡ members_len ms + members_len ns
members_len-append [] ns = omega arith
members_len-append (m ∷ ms) ns = omega (arith, members_len-append ms ns)

escape-append : (s t : List ℕ) → length (escape (s ++ t)) ≡ length (escape s) + length (escape t)
escape-append [] t = omega arith
escape-append (b ∷ s) t = omega (arith, length-append (escape_byte b) (escape (s ++ t)), length-append (escape_byte b) (escape s), escape-append s t)

-- a byte that stands for itself
plain_len : (x : ℕ) (s : List ℕ) → 32 ≤ x → x ≢ 34 → x ≢ 92 → length (escape (x ∷ s)) ≡ 1 + length (escape s)
unfolding escape_byte
plain_len x s low no_quote no_backslash =
    rw (ne_eqb x 34 no_quote, ne_eqb x 92 no_backslash, ne_eqb x 8 (λ e. omega (arith, low, e)), ne_eqb x 12 (λ e. omega (arith, low, e)), ne_eqb x 10 (λ e. omega (arith, low, e)), ne_eqb x 13 (λ e. omega (arith, low, e)), ne_eqb x 9 (λ e. omega (arith, low, e)), le-ltb x 32 low)
    (omega arith)

digit_len : (d : ℕ) → d < 10 → length (escape ((48 + d) ∷ [])) ≡ 1
digit_len d low = plain_len (48 + d) [] (omega arith) (λ e. omega (arith, e, low)) (λ e. omega (arith, e, low))

numeral_len : (turns n : ℕ) → n ≤ turns → length (escape (numeral n)) ≡ length (numeral n)
numeral_len zero n le =
    let z : n ≡ 0 = omega (arith, le) in
    ap (λ k. length (escape (numeral k))) z ∙ ap (λ s. length (escape s)) numeral-zero ∙ digit_len 0 (omega arith) ∙ sym (ap (λ k. length (numeral k)) z ∙ ap length numeral-zero)
numeral_len (suc turns) n le = ⊎_elim
    (λ small. ⊎_elim
    (λ some. ap (λ s. length (escape s)) (numeral_one n some small) ∙ digit_len n small ∙ sym (ap length (numeral_one n some small)))
    (λ none.
    let z : n ≡ 0 = omega (arith, none) in
    ap (λ k. length (escape (numeral k))) z ∙ ap (λ s. length (escape s)) numeral-zero ∙ digit_len 0 (omega arith) ∙ sym (ap (λ k. length (numeral k)) z ∙ ap length numeral-zero))
    (cases_lt 0 n))
    (λ large.
    let split : n / 10 * 10 + n % 10 ≡ n = omega arith in
    let whole : numeral n ≡ numeral (n / 10) ++ (48 + n % 10) ∷ [] = ap numeral (sym split) ∙ numeral_push (n / 10) (n % 10) (omega (arith, large)) (omega arith) in
    let rest = numeral_len turns (n / 10) (omega (arith, le, large)) in
    let escaped = ap (λ s. length (escape s)) whole ∙ escape-append (numeral (n / 10)) ((48 + n % 10) ∷ []) in
    let plain = ap length whole ∙ length-append (numeral (n / 10)) ((48 + n % 10) ∷ []) in
    omega (arith, escaped, plain, rest, digit_len (n % 10) (omega arith)))
    (cases_lt n 10)

ten_times : (n : ℕ) → 0 < n → length (numeral (n * 10)) ≡ length (numeral n) + 1
ten_times n some =
    let plain : n * 10 ≡ n * 10 + 0 = omega arith in
    ap (λ k. length (numeral k)) plain ∙ ap length (numeral_push n 0 some (omega arith)) ∙ length_push (numeral n) (48 + 0)

fifteen_digits : length (numeral 100000000000000) ≡ 15
fifteen_digits =
    let one = ap length (numeral_one 1 (omega arith) (omega arith)) in
    let more : length (numeral 100000) ≡ 6 = omega (arith, one, ten_times 1 (omega arith), ten_times 10 (omega arith), ten_times 100 (omega arith), ten_times 1000 (omega arith), ten_times 10000 (omega arith)) in
    let many : length (numeral 10000000000) ≡ 11 = omega (arith, more, ten_times 100000 (omega arith), ten_times 1000000 (omega arith), ten_times 10000000 (omega arith), ten_times 100000000 (omega arith), ten_times 1000000000 (omega arith)) in
    omega (arith, many, ten_times 10000000000 (omega arith), ten_times 100000000000 (omega arith), ten_times 1000000000000 (omega arith), ten_times 10000000000000 (omega arith))

-- a number that stands before a colon and the server
number_len : (n : ℕ) (server : List ℕ) → length (escape (numeral n ++ 58 ∷ server)) ≡ length (numeral n) + 1 + length (escape server)
number_len n server =
    let colon = plain_len 58 server (omega arith) (λ e. omega (arith, e)) (λ e. omega (arith, e)) in
    omega (arith, escape-append (numeral n) (58 ∷ server), numeral_len n n (omega arith), colon)

pub event_id_len : (server : List ℕ) (size named : ℕ) → named ≡ min (length (quoted server)) (2 ^ 64 - 1) → size ≡ min (named + 17) (2 ^ 64 - 1)
    → size ≡ min (length (json_text (json.Text (event_id_text server (record { at = 100000000000000 }))))) (2 ^ 64 - 1)
unfolding event_id_text
event_id_len server size named first second =
    let rest = numeral 100000000000000 ++ 58 ∷ server in
    let mark = plain_len 36 rest (omega arith) (λ e. omega (arith, e)) (λ e. omega (arith, e)) in
    let text = ap length (text-Text (36 ∷ rest)) ∙ quoted_len (36 ∷ rest) in
    omega (arith, first, second, text, quoted_len server, mark, number_len 100000000000000 server, fifteen_digits)

pub room_id_len : (server : List ℕ) (writer size named digits both : ℕ) → writer < 2 ^ 64 → named ≡ min (length (quoted server)) (2 ^ 64 - 1) → digits ≡ length (decimal writer) → both ≡ min (named + digits) (2 ^ 64 - 1)
    → size ≡ min (both + 18) (2 ^ 64 - 1) → size ≡ min (length (json_text (json.Text (room_id_text server (record { writer = writer; at = 100000000000000 }))))) (2 ^ 64 - 1)
unfolding room_id_text
room_id_len server writer size named digits both small first number second third =
    let rest = numeral 100000000000000 ++ 58 ∷ server in
    let mark = plain_len 33 (numeral writer ++ 45 ∷ rest) (omega arith) (λ e. omega (arith, e)) (λ e. omega (arith, e)) in
    let dash = plain_len 45 rest (omega arith) (λ e. omega (arith, e)) (λ e. omega (arith, e)) in
    let text = ap length (text-Text (33 ∷ (numeral writer ++ 45 ∷ rest))) ∙ quoted_len (33 ∷ (numeral writer ++ 45 ∷ rest)) in
    let writer_len = ap length (decimal-numeral writer small) in
    let middle = escape-append (numeral writer) (45 ∷ rest) in
    omega (arith, first, second, third, number, text, quoted_len server, mark, dash, middle, numeral_len writer writer (omega arith), writer_len, number_len 100000000000000 server, fifteen_digits)

-- one more summand, where each sum stops at the largest number
pub one_part : (size before part len sum : ℕ) → size ≡ min before (2 ^ 64 - 1) → part ≡ min len (2 ^ 64 - 1) → sum ≡ min (size + part) (2 ^ 64 - 1) → sum ≡ min (before + len) (2 ^ 64 - 1)
one_part size before part len sum first second third = omega (arith, first, second, third)

-- the size of an event is that of its members
pub whole_len : (server : List ℕ) (e : Event)
    → 1 + members_len (member (codes "content") e.content ∷ []) + members_len (member (codes "event_id") (json.Text (event_id_text server e.id)) ∷ []) + members_len (member (codes "origin_server_ts") (json.Int (pos (min e.ts largest))) ∷ [])
    + members_len (member_if (codes "redacts") (redacts_of e)) + members_len (member (codes "room_id") (json.Text (room_id_text server e.room)) ∷ []) + members_len (member (codes "sender") (json.Text e.sender) ∷ [])
    + members_len (member_if (codes "state_key") (option_map json.Text e.state_key)) + members_len (member (codes "type") (json.Text e.kind) ∷ [])
    ≡ length (json_text (bare_form server true e))
whole_len server e =
    let kind = member (codes "type") (json.Text e.kind) ∷ [] in
    let key = member_if (codes "state_key") (option_map json.Text e.state_key) in
    let sender = member (codes "sender") (json.Text e.sender) in
    let room = member (codes "room_id") (json.Text (room_id_text server e.room)) in
    let redacts = member_if (codes "redacts") (redacts_of e) in
    let text = ap length (text-Object (event_members server true [] e)) in
    let all = object_len (event_members server true [] e) (ne_eqb (length (event_members server true [] e)) 0 (λ z. omega (arith, z))) in
    omega (arith, text, all, members_len-append redacts (room ∷ (sender ∷ (key ++ kind))), members_len-append key kind)

pub number_len_of : (read n : ℕ) (size : ℕ) → size ≡ length (decimal read) → size ≤ 20 → read ≡ n → size ≡ min (length (json_text (json.Int (pos n)))) (2 ^ 64 - 1)
number_len_of read n size is few same =
    let digits : size ≡ length (decimal n) = is ∙ ap (λ k. length (decimal k)) same in
    let text : length (json_text (json.Int (pos n))) ≡ length (decimal n) = ap length (text-Int (pos n)) in
    omega (arith, digits, few, text)

pub text_len : (read text : List ℕ) (size : ℕ) → size ≡ min (length (quoted read)) (2 ^ 64 - 1) → read ≡ text → size ≡ min (length (json_text (json.Text text))) (2 ^ 64 - 1)
text_len read text size is same = is ∙ ap (λ s. min (length (quoted s)) (2 ^ 64 - 1)) same ∙ ap (λ s. min (length s) (2 ^ 64 - 1)) (sym (text-Text text))
