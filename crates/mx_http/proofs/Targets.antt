-- The test whether bytes end inside a target decides it.
use Rattle.std.proofs.Common.{◌≡◌, ℕ, ◌<◌, Bool, true, false, ◌&&◌, ◌||◌, ◌==◌, IsTrue, ◌↔◌, ⊎_elim, if◌then◌else◌, List, [], ◌∷◌, ◌++◌, length, nat_lt, refl, sym, ap, ◌∙◌, arith, append_assoc, length-append}
use Rattle.std.specs.List.{list_all}
use Rattle.std.proofs.lemmas.Bool.{and_parts, cases_Bool, eqb-true, lt-ltb, ltb-true}
use Rattle.std.proofs.lemmas.List.Elements.{All-head, All-tail, All-nil, All-cons}
use Rattle.std.proofs.lemmas.List.Sums.{AllPass-from_list_all, list_all-from_AllPass}
use Rattle.httparse.specs.Grammar.{LineEnd, crlf, lf, print_blank, is_token_byte, is_uri_byte, AllPass, EndsInTarget}
use Rattle.httparse.proofs.PieceLemmas.{space_ends_token}
use Rattle.mx_http.specs.Calls.{AreLineEnds}
use Rattle.mx_http.specs.Target.{behind_lines, behind_token, is_target_part, is_target_line, ends_in_target}

-- ---- bytes that end inside a target pass the test

lines_skipped : (ends : List LineEnd) (rest : List ℕ) → behind_lines false (print_blank ends ++ rest) ≡ behind_lines false rest
lines_skipped [] rest = refl
lines_skipped (crlf ∷ ends) rest = lines_skipped ends rest
lines_skipped (lf ∷ ends) rest = lines_skipped ends rest

lf_ends_token : is_token_byte 10 ≡ false
unfolding is_token_byte
lf_ends_token = refl

cr_ends_token : is_token_byte 13 ≡ false
unfolding is_token_byte
cr_ends_token = refl

-- a byte of a token is none that isn't
pub token_byte_other : (b n : ℕ) → is_token_byte b ≡ true → is_token_byte n ≡ false → (b == n) ≡ false
token_byte_other b n pass other = ⊎_elim
    (λ (e : (b == n) ≡ true). let same : is_token_byte b ≡ is_token_byte n = ap is_token_byte (eqb-true b n e) in absurd (cc))
    (λ (e : (b == n) ≡ false). e)
    (cases_Bool (b == n))

token_line : (method rest : List ℕ) → 0 < length method → AllPass is_token_byte method
    → behind_lines false (method ++ rest) ≡ method ++ rest
token_line [] rest some all = absurd (omega arith)
token_line (b ∷ bytes) rest some all =
    let pass = All-head (λ x. IsTrue (is_token_byte x)) b bytes all in
    rw (token_byte_other b 10 pass lf_ends_token, token_byte_other b 13 pass cr_ends_token) refl

token_skipped : (method rest : List ℕ) → AllPass is_token_byte method → behind_token (method ++ 32 ∷ rest) ≡ 32 ∷ rest
token_skipped [] rest all = rw space_ends_token refl
token_skipped (b ∷ bytes) rest all =
    let pass : is_token_byte b ≡ true = All-head (λ x. IsTrue (is_token_byte x)) b bytes all in
    rw pass (token_skipped bytes rest (All-tail (λ x. IsTrue (is_token_byte x)) b bytes all))

both : (a b : Bool) → a ≡ true → b ≡ true → (a && b) ≡ true
both a b x y = rw (x, y) refl

line_passes : (method target : List ℕ) → 0 < length method → AllPass is_token_byte method → AllPass is_uri_byte target
    → is_target_line (method ++ 32 ∷ target) ≡ true
line_passes method target some all uri =
    rw (token_skipped method target all)
    (both _ _ (lt-ltb (length (32 ∷ target)) (length (method ++ 32 ∷ target)) (omega (arith, length-append method (32 ∷ target)))) (list_all-from_AllPass is_uri_byte target uri))

complete : (bytes : List ℕ) → EndsInTarget bytes → ends_in_target bytes ≡ true
complete bytes h =
    let blank = h.0 in
    let method = h.1 in
    let target = h.2 in
    let line : behind_lines false bytes ≡ method ++ 32 ∷ target =
    ap (behind_lines false) (h.5 ∙ append_assoc (print_blank blank) method (32 ∷ target)) ∙ lines_skipped blank (method ++ 32 ∷ target) ∙ token_line method (32 ∷ target) h.3.0 h.3.1 in
    ap is_target_line line ∙ line_passes method target h.3.0 h.3.1 h.4

-- ---- and no others

-- the bytes, behind a CR where there is one
abbrev behind_cr : Bool → List ℕ → List ℕ
behind_cr cr bytes = if cr then 13 ∷ bytes else bytes

abbrev Lines : Bool → List ℕ → Type 0
Lines cr bytes = (ends : List LineEnd) × (behind_cr cr bytes ≡ print_blank ends ++ behind_lines cr bytes)

lines_at : (b : ℕ) (bytes : List ℕ) → Lines false bytes → Lines true bytes → (s t : Bool) → (b == 10) ≡ s → (b == 13) ≡ t → Lines false (b ∷ bytes)
lines_at b bytes plain cr true t is_lf u = (lf ∷ plain.0, rw is_lf (λ i. eqb-true b 10 is_lf i ∷ plain.1 i))
lines_at b bytes plain cr false true no_lf is_cr = (cr.0, rw (no_lf, is_cr) (ap (λ c. c ∷ bytes) (eqb-true b 13 is_cr) ∙ cr.1))
lines_at b bytes plain cr false false no_lf no_cr = ([], rw (no_lf, no_cr) refl)

lines_at_cr : (b : ℕ) (bytes : List ℕ) → Lines false bytes → (s : Bool) → (b == 10) ≡ s → Lines true (b ∷ bytes)
lines_at_cr b bytes plain true is_lf = (crlf ∷ plain.0, rw is_lf (λ i. 13 ∷ eqb-true b 10 is_lf i ∷ plain.1 i))
lines_at_cr b bytes plain false no_lf = ([], rw no_lf refl)

lines_are : (cr : Bool) (bytes : List ℕ) → Lines cr bytes
lines_are true [] = ([], refl)
lines_are false [] = ([], refl)
lines_are true (b ∷ bytes) = lines_at_cr b bytes (lines_are false bytes) (b == 10) refl
lines_are false (b ∷ bytes) = lines_at b bytes (lines_are false bytes) (lines_are true bytes) (b == 10) (b == 13) refl refl

abbrev HasToken : List ℕ → Type 0
HasToken line = (token : List ℕ) × AllPass is_token_byte token × (line ≡ token ++ behind_token line)

token_at : (b : ℕ) (bytes : List ℕ) → HasToken bytes → (t : Bool) → is_token_byte b ≡ t → HasToken (b ∷ bytes)
token_at b bytes later true pass = (b ∷ later.0, All-cons (λ x. IsTrue (is_token_byte x)) b later.0 pass later.1, rw pass (ap (λ l. b ∷ l) later.2))
token_at b bytes later false fails = ([], All-nil (λ x. IsTrue (is_token_byte x)), rw fails refl)

token_is : (line : List ℕ) → HasToken line
token_is [] = ([], All-nil (λ x. IsTrue (is_token_byte x)), refl)
token_is (b ∷ bytes) = token_at b bytes (token_is bytes) (is_token_byte b) refl

target_is : (after : List ℕ) → is_target_part after ≡ true → (target : List ℕ) × AllPass is_uri_byte target × (after ≡ 32 ∷ target)
target_is [] h = absurd (cc)
target_is (b ∷ bytes) h =
    let parts = and_parts (b == 32) (list_all is_uri_byte bytes) h in
    (bytes, AllPass-from_list_all is_uri_byte bytes parts.1, ap (λ c. c ∷ bytes) (eqb-true b 32 parts.0))

sound : (bytes : List ℕ) → ends_in_target bytes ≡ true → EndsInTarget bytes
sound bytes h =
    let lines = lines_are false bytes in
    let line = behind_lines false bytes in
    let token = token_is line in
    let parts = and_parts (nat_lt (length (behind_token line)) (length line)) (is_target_part (behind_token line)) h in
    let target = target_is (behind_token line) parts.1 in
    let some : 0 < length token.0 = omega (arith, ltb-true (length (behind_token line)) (length line) parts.0, ap length token.2, length-append token.0 (behind_token line)) in
    (lines.0, token.0, target.0, (some, token.1), target.1, lines.1 ∙ ap (λ l. print_blank lines.0 ++ l) (token.2 ∙ ap (λ l. token.0 ++ l) target.2) ∙ sym (append_assoc (print_blank lines.0) token.0 (32 ∷ target.0)))

pub test_decides : (r : Bool) (bytes : List ℕ) → r ≡ ends_in_target bytes → IsTrue r ↔ EndsInTarget bytes
test_decides r bytes e = (λ t. sound bytes (sym e ∙ t), λ h. e ∙ complete bytes h)

pub line_ends_decide : (r : Bool) (bytes : List ℕ) → r ≡ list_all (λ b. b == 13 || b == 10) bytes → IsTrue r ↔ AreLineEnds bytes
line_ends_decide r bytes e = (λ t. AllPass-from_list_all (λ b. b == 13 || b == 10) bytes (sym e ∙ t), λ h. e ∙ list_all-from_AllPass (λ b. b == 13 || b == 10) bytes h)
