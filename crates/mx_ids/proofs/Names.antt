-- A user of a server, as the users file names it, has a user id.
use Rattle.std.proofs.Common.{◌≡◌, ℕ, ◌+◌, ◌<◌, ◌≤◌, Bool, true, ◌&&◌, leb, eqb, List, [], ◌∷◌, ◌++◌, length, get_or, refl, ap, ◌∙◌, arith, length-drop}
use Rattle.std.proofs.lemmas.Bool.{and_parts, and_from, or_cases, leb-true, eqb-true}
use Rattle.std.proofs.lemmas.Bool.Decides.{nat_tests}
use Rattle.std.proofs.lemmas.List.Folds.{list_all-append}
use Rattle.std.proofs.lemmas.List.Sums.{split_at_first, passes_at_first}
use Rattle.std.specs.Char.{is_ascii_graphic, is_ascii_digit}
use Rattle.std.specs.List.{list_all, position_or_len, before_first, after_first}
use mathlib.Core.Logic.{⊎_elim}
use Rattle.mx_ids.specs.Name.{is_text_of, is_host_byte, is_host, is_port, is_server_name, is_localpart_byte}
use Rattle.mx_ids.specs.User.{server_of, is_local_byte, IsUserId}
use Rattle.mx_ids.specs.Users.{IsUserOf}
use Rattle.mx_ids.proofs.Form.{local_parts, server_behind}

host_is_graphic : (c : ℕ) → is_host_byte c ≡ true → is_ascii_graphic c ≡ true
host_is_graphic c h = grind (arith, nat_tests)

digit_is_graphic : (c : ℕ) → is_ascii_digit c ≡ true → is_ascii_graphic c ≡ true
digit_is_graphic c h = grind (arith, nat_tests)

localpart_is_local : (c : ℕ) → is_localpart_byte c ≡ true → is_local_byte c ≡ true
localpart_is_local c h = grind (arith, nat_tests)

all_pass : (p q : ℕ → Bool) → ((c : ℕ) → p c ≡ true → q c ≡ true) → (xs : List ℕ) → list_all p xs ≡ true → list_all q xs ≡ true
all_pass p q f [] h = refl
all_pass p q f (x ∷ xs) h =
    let both = and_parts (p x) (list_all p xs) h in
    and_from (q x) (list_all q xs) (f x both.0) (all_pass p q f xs both.1)

text_parts : (least most : ℕ) (p : ℕ → Bool) (text : List ℕ) → is_text_of least most p text ≡ true → (least ≤ length text) × (list_all p text ≡ true)
text_parts least most p text h =
    let both = and_parts (leb least (length text) && leb (length text) most) (list_all p text) h in
    let sizes = and_parts (leb least (length text)) (leb (length text) most) both.0 in
    (leb-true least (length text) sizes.0, both.1)

server_is_graphic : (text : List ℕ) → is_server_name text ≡ true → (0 < length text) × (list_all is_ascii_graphic text ≡ true)
server_is_graphic text h =
    let is_colon : ℕ → Bool = λ c. eqb c 58 in
    let host = before_first is_colon text in
    let port = after_first is_colon text in
    ⊎_elim
    (λ alone. let parts = text_parts 1 230 is_host_byte text alone in (omega (arith, parts.0), all_pass is_host_byte is_ascii_graphic host_is_graphic text parts.1))
    (λ with_port.
    let both = and_parts (is_host host) (is_port port) with_port in
    let h_parts = text_parts 1 230 is_host_byte host both.0 in
    let p_parts = text_parts 1 5 is_ascii_digit port both.1 in
    let within : position_or_len is_colon text < length text = omega (arith, p_parts.0, length-drop (position_or_len is_colon text + 1) text) in
    let colon = eqb-true (get_or text (position_or_len is_colon text) 0) 58 (passes_at_first is_colon text 0 within) in
    let whole : text ≡ host ++ 58 ∷ port = split_at_first is_colon text 0 within ∙ ap (λ c. host ++ c ∷ port) colon in (
      omega (arith, within),
      ap (list_all is_ascii_graphic) whole
          ∙ list_all-append is_ascii_graphic host (58 ∷ port)
          ∙ and_from (list_all is_ascii_graphic host) (list_all is_ascii_graphic port) (all_pass is_host_byte is_ascii_graphic host_is_graphic host h_parts.1) (all_pass is_ascii_digit is_ascii_graphic digit_is_graphic port p_parts.1),
    ))
    (or_cases (is_host text) (is_host host && is_port port) h)

pub user_of-user_id : (server id : List ℕ) → is_server_name server ≡ true → IsUserOf server id → IsUserId id
user_of-user_id server id name is =
    let of_server = server_is_graphic server name in
    let local = and_parts (leb 1 (length is.0)) (list_all is_localpart_byte is.0) is.2 in
    let some = leb-true 1 (length is.0) local.0 in (
      is.0,
      server,
      is.1,
      omega (arith, some),
      all_pass is_localpart_byte is_local_byte localpart_is_local is.0 local.1,
      of_server.0,
      of_server.1,
      is.3,
    )

pub user_of-server : (server id : List ℕ) → IsUserOf server id → server_of id ≡ server
user_of-server server id is =
    let local = and_parts (leb 1 (length is.0)) (list_all is_localpart_byte is.0) is.2 in
    ap server_of is.1 ∙ server_behind (64 ∷ is.0) server (local_parts is.0 (all_pass is_localpart_byte is_local_byte localpart_is_local is.0 local.1)).1
