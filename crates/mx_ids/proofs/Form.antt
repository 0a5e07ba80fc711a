-- The test of a user id is true exactly where the form holds.
use Rattle.std.proofs.Common.{◌≡◌, ℕ, suc, ◌+◌, ◌<◌, Bool, true, false, not, ◌&&◌, leb, eqb, List, [], ◌∷◌, ◌++◌, length, get_or, drop, refl, sym, ap, subst, ◌∙◌, arith, length-drop}
use Rattle.std.proofs.lemmas.Bool.{cases_Bool, cond-true, cond-false, and_parts, and_from, eqb-true, eqb-false, ne_eqb, leb-true, le-leb, not-true, not_from_false, and_right, true≢false}
use Rattle.std.proofs.lemmas.List.{drop_all}
use Rattle.std.proofs.lemmas.List.Sums.{split_at_first, passes_at_first, take_while-cons}
use Rattle.std.specs.Char.{is_ascii_graphic}
use Rattle.std.specs.List.{list_all, prefix_len, position_or_len, before_first, take_while}
use mathlib.Core.Logic.{⊎_elim}
use Rattle.mx_ids.specs.User.{server_of, is_local_byte, IsUserId, is_visible, is_sigil_and_visible, is_user_id_text}

abbrev is_other : ℕ → Bool
is_other c = not (eqb c 58)

take_while_passes : (xs : List ℕ) → list_all is_other (take_while is_other xs) ≡ true
take_while_passes [] = refl
take_while_passes (x ∷ xs) = ap (list_all is_other) (take_while-cons is_other x xs) ∙ ⊎_elim
    (λ t. ap (list_all is_other) (cond-true (is_other x) (x ∷ take_while is_other xs) [] t) ∙ and_from (is_other x) (list_all is_other (take_while is_other xs)) t (take_while_passes xs))
    (λ f. ap (list_all is_other) (cond-false (is_other x) (x ∷ take_while is_other xs) [] f))
    (cases_Bool (is_other x))

before_colon : (xs ys : List ℕ) → list_all is_other xs ≡ true → take_while is_other (xs ++ 58 ∷ ys) ≡ xs
before_colon [] ys h = take_while-cons is_other 58 ys
before_colon (x ∷ xs) ys h =
    let both = and_parts (is_other x) (list_all is_other xs) h in
    take_while-cons is_other x (xs ++ 58 ∷ ys)
    ∙ cond-true (is_other x) (x ∷ take_while is_other (xs ++ 58 ∷ ys)) [] both.0
    ∙ ap (λ zs. x ∷ zs) (before_colon xs ys both.1)

colon_at : (xs ys : List ℕ) → list_all is_other xs ≡ true → prefix_len is_other (xs ++ 58 ∷ ys) ≡ length xs
colon_at [] ys h = refl
colon_at (x ∷ xs) ys h =
    let both = and_parts (is_other x) (list_all is_other xs) h in
    let one : 1 + length xs ≡ length (x ∷ xs) = omega arith in
    cond-true (is_other x) (1 + prefix_len is_other (xs ++ 58 ∷ ys)) 0 both.0 ∙ ap (λ n. 1 + n) (colon_at xs ys both.1) ∙ one

behind : (xs ys : List ℕ) (c : ℕ) → drop (length xs + 1) (xs ++ c ∷ ys) ≡ ys
behind [] ys c = refl
behind (x ∷ xs) ys c = let n : length (x ∷ xs) + 1 ≡ suc (length xs + 1) = omega arith in ap (λ k. drop k (x ∷ (xs ++ c ∷ ys))) n ∙ behind xs ys c

pub server_behind : (xs ys : List ℕ) → list_all is_other xs ≡ true → server_of (xs ++ 58 ∷ ys) ≡ ys
server_behind xs ys h = ap (λ n. drop (n + 1) (xs ++ 58 ∷ ys)) (colon_at xs ys h) ∙ behind xs ys 58

local_from : (xs : List ℕ) → list_all is_ascii_graphic xs ≡ true → list_all is_other xs ≡ true → list_all is_local_byte xs ≡ true
local_from [] g o = refl
local_from (x ∷ xs) g o =
    let gs = and_parts (is_ascii_graphic x) (list_all is_ascii_graphic xs) g in
    let os = and_parts (is_other x) (list_all is_other xs) o in
    and_from (is_local_byte x) (list_all is_local_byte xs) (and_from (is_ascii_graphic x) (is_other x) gs.0 os.0) (local_from xs gs.1 os.1)

pub local_parts : (xs : List ℕ) → list_all is_local_byte xs ≡ true → (list_all is_ascii_graphic xs ≡ true) × (list_all is_other xs ≡ true)
local_parts [] h = (refl, refl)
local_parts (x ∷ xs) h =
    let both = and_parts (is_local_byte x) (list_all is_local_byte xs) h in
    let here = and_parts (is_ascii_graphic x) (is_other x) both.0 in
    let rest = local_parts xs both.1 in
    (and_from (is_ascii_graphic x) (list_all is_ascii_graphic xs) here.0 rest.0, and_from (is_other x) (list_all is_other xs) here.1 rest.1)

visible_parts : (xs : List ℕ) → is_visible xs ≡ true → (0 < length xs) × (list_all is_ascii_graphic xs ≡ true)
unfolding is_visible
visible_parts xs h =
    let both = and_parts (not (eqb (length xs) 0)) (list_all is_ascii_graphic xs) h in
    let some = eqb-false (length xs) 0 (not-true (eqb (length xs) 0) both.0) in
    (omega (arith, some), both.1)

visible_from : (xs : List ℕ) → 0 < length xs → list_all is_ascii_graphic xs ≡ true → is_visible xs ≡ true
unfolding is_visible
visible_from xs some all =
    and_from (not (eqb (length xs) 0)) (list_all is_ascii_graphic xs) (not_from_false (eqb (length xs) 0) (ne_eqb (length xs) 0 (λ e. omega arith))) all

sigil_parts : (xs : List ℕ) → is_sigil_and_visible xs ≡ true → (cs : List ℕ) × (xs ≡ 64 ∷ cs) × (is_visible cs ≡ true)
unfolding is_sigil_and_visible
sigil_parts [] h = absurd (true≢false (sym h))
sigil_parts (c ∷ cs) h = let both = and_parts (eqb c 64) (is_visible cs) h in (cs, ap (λ d. d ∷ cs) (eqb-true c 64 both.0), both.1)

sigil_from : (cs : List ℕ) → is_visible cs ≡ true → is_sigil_and_visible (64 ∷ cs) ≡ true
unfolding is_sigil_and_visible
sigil_from cs h = h

pub no_colon : (text : List ℕ) → position_or_len (λ c. eqb c 58) text ≡ length text → false ≡ is_user_id_text text
unfolding is_user_id_text is_visible
no_colon text none =
    let empty : server_of text ≡ [] = drop_all (position_or_len (λ c. eqb c 58) text + 1) text (omega arith) in
    sym (and_right _ (is_visible (server_of text)) (ap is_visible empty))

pub user_from_test : (text : List ℕ) → is_user_id_text text ≡ true → IsUserId text
unfolding is_user_id_text
user_from_test text h =
    let is_colon : ℕ → Bool = λ c. eqb c 58 in
    let front = before_first is_colon text in
    let ends = and_parts (leb (length text) 255 && is_sigil_and_visible front) (is_visible (server_of text)) h in
    let begins = and_parts (leb (length text) 255) (is_sigil_and_visible front) ends.0 in
    let server = visible_parts (server_of text) ends.1 in
    let local = sigil_parts front begins.1 in
    let visible = visible_parts local.0 local.2 in
    let others : list_all is_other (64 ∷ local.0) ≡ true = subst (λ xs. list_all is_other xs ≡ true) local.1 (take_while_passes text) in
    let within : position_or_len is_colon text < length text = omega (arith, server.0, length-drop (position_or_len is_colon text + 1) text) in
    let colon = eqb-true (get_or text (position_or_len is_colon text) 0) 58 (passes_at_first is_colon text 0 within) in (
      local.0,
      server_of text,
      split_at_first is_colon text 0 within ∙ (λ i. local.1 i ++ colon i ∷ server_of text),
      visible.0,
      local_from local.0 visible.1 (and_parts (is_other 64) (list_all is_other local.0) others).1,
      server.0,
      server.1,
      leb-true (length text) 255 begins.0,
    )

pub test_from_user : (text : List ℕ) → IsUserId text → is_user_id_text text ≡ true
unfolding is_user_id_text
test_from_user text is =
    let parts = local_parts is.0 is.4 in
    let others : list_all is_other (64 ∷ is.0) ≡ true = parts.1 in
    let front : before_first (λ c. eqb c 58) text ≡ 64 ∷ is.0 = ap (before_first (λ c. eqb c 58)) is.2 ∙ before_colon (64 ∷ is.0) is.1 others in
    let server : server_of text ≡ is.1 = ap server_of is.2 ∙ server_behind (64 ∷ is.0) is.1 others in
    and_from (leb (length text) 255 && is_sigil_and_visible (before_first (λ c. eqb c 58) text)) (is_visible (server_of text))
    (and_from (leb (length text) 255) (is_sigil_and_visible (before_first (λ c. eqb c 58) text)) (le-leb (length text) 255 is.7)
    (ap is_sigil_and_visible front ∙ sigil_from is.0 (visible_from is.0 is.3 parts.0)))
    (ap is_visible server ∙ visible_from is.1 is.5 is.6)

pub user_iff_test : (text : List ℕ) (r : Bool) → r ≡ is_user_id_text text → (r ≡ true → IsUserId text) × (IsUserId text → r ≡ true)
user_iff_test text r e = (λ h. user_from_test text (sym e ∙ h), λ is. e ∙ test_from_user text is)
