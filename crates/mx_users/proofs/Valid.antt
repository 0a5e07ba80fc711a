-- What a users file gives are users of one server, each once, with each device name of a user and each token once.
use Rattle.std.proofs.Common.{◌≡◌, ◌≢◌, ℕ, ◌+◌, ◌<◌, ◌≤◌, Bool, true, false, cond, ◌&&◌, ◌||◌, ◌==◌, List, [], ◌∷◌, ◌++◌, length, get_or, refl, sym, subst, ◌∙◌, arith, Option, None, Some, ltb, ltb-true, ltb-false, leb, leb-true, eq-eqb, true≢false}
use Rattle.std.proofs.lemmas.Bool.{cases_Bool, and_parts, and_from}
use Rattle.std.proofs.lemmas.List.{length_push}
use Rattle.std.proofs.lemmas.List.Elements.{All-push}
use Rattle.std.proofs.lemmas.List.Folds.{list_any_at}
use Rattle.std.proofs.lemmas.List.Quantifiers.{all_pairs_push}
use Rattle.std.proofs.lemmas.List.Sums.{fails_before_first}
use Rattle.std.proofs.lemmas.Option.{cond_some, same_Some, none-some, option_and_then_some}
use Rattle.std.proofs.lemmas.Slice.Eq.{bytes_eq-Decides}
use Rattle.std.specs.List.{All, before_first, slice_split}
use Rattle.std.specs.Str.{bytes_eq, is_utf8}
use Rattle.std.specs.Prelude.{ok_or, codes, Result, Ok, IfOk}
use mathlib.Core.Logic.{⊎_elim}
use Rattle.mx_ids.specs.Name.{is_server_name, is_localpart, is_device_name, is_access_token}
use Rattle.mx_ids.specs.User.{is_user_id_text, is_sigil_and_visible, is_visible, server_of as server_part, user_id_text, IsUserId}
use Rattle.mx_ids.specs.Users.{IsUsers, IsUserOf, IsDeviceOf}
use Rattle.mx_ids.specs.declared.users.Device.{Device}
use Rattle.mx_ids.specs.declared.users.Users.{Users}
use Rattle.mx_ids.proofs.Form.{user_from_test}
use Rattle.mx_users.specs.UsersFile.{and_then, only_server, number_of, has_name, has_token, with_user, with_device, with_parts, with_text, with_line, with_lines, word_of, behind_word, server_in, server_of, users_of_lines, users_in}
use Rattle.mx_users.proofs.Indices.{any_within, number_push}

-- valid users, of this server
abbrev IsServed : List ℕ → Users → Type 0
IsServed server u = (u.server ≡ server) × IsUsers u

-- ---- a user

new_user : (us : List (List ℕ)) (id : List ℕ) → ltb (number_of us id) (length us) ≡ false → (k : ℕ) (d : List ℕ) → k < length us → get_or us k d ≢ id
new_user us id none k d lt e =
    let fails = fails_before_first (λ u. bytes_eq u id) us k d (omega (arith, lt, ltb-false (number_of us id) (length us) none)) in
    true≢false (sym ((bytes_eq-Decides (get_or us k d) id).1 e) ∙ fails)

more_users : (n m : ℕ) (ds : List Device) → n ≤ m → All (IsDeviceOf n) ds → All (IsDeviceOf m) ds
more_users n m ds le all k d lt = let is = all k d lt in (omega (arith, le, is.0), is.1, is.2)

pushed_user : (u : Users) (id : List ℕ) → IsUsers u → IsUserOf u.server id → ltb (number_of u.users id) (length u.users) ≡ false → length u.users < 4096
    → IsUsers (record { server = u.server; users = u.users ++ id ∷ []; devices = u.devices })
pushed_user u id is of none few =
    let longer = length_push u.users id in
    record {
      server = is.server;
      few_users = omega (arith, few, longer);
      few_devices = is.few_devices;
      users = All-push (IsUserOf u.server) u.users id is.users of;
      devices = more_users (length u.users) (length (u.users ++ id ∷ [])) u.devices (omega (arith, longer)) is.devices;
      users_once = all_pairs_push (λ x y. x ≢ y) u.users id is.users_once (new_user u.users id none);
      names_once = is.names_once;
      tokens_once = is.tokens_once;
    }

-- the users that `with_user` gives are valid, and have the user
abbrev HasUser : List ℕ → List ℕ → Users → Type 0
HasUser server id m = IsServed server m × (number_of m.users id < length m.users)

user_at : (u m : Users) (id : List ℕ) (here : Bool) → IsUsers u → IsUserOf u.server id → ltb (number_of u.users id) (length u.users) ≡ here
    → cond here (Some u) (cond (ltb (length u.users) 4096) (Some (record { server = u.server; users = u.users ++ id ∷ []; devices = u.devices })) None) ≡ Some m → HasUser u.server id m
user_at u m id true is of here h =
    subst (HasUser u.server id) (same_Some u m h) ((refl, is), ltb-true (number_of u.users id) (length u.users) here)
user_at u m id false is of none h =
    let more : Users = record { server = u.server; users = u.users ++ id ∷ []; devices = u.devices } in
    let both = cond_some (ltb (length u.users) 4096) more m h in
    subst (HasUser u.server id) both.1
    ((refl, pushed_user u id is of none (ltb-true (length u.users) 4096 both.0)), omega (arith, number_push u.users id (sym (any_within (λ x. bytes_eq x id) u.users) ∙ none), length_push u.users id))

with_user_valid : (u m : Users) (id : List ℕ) → IsUsers u → IsUserOf u.server id → with_user u id ≡ Some m → HasUser u.server id m
unfolding with_user
with_user_valid u m id is of h = user_at u m id (ltb (number_of u.users id) (length u.users)) is of refl h

-- ---- a device

new_name : (ds : List Device) (user : ℕ) (name : List ℕ) → has_name ds user name ≡ false → (k : ℕ) (d : Device) → k < length ds → (get_or ds k d).user ≡ user → (get_or ds k d).name ≢ name
new_name ds user name none k d lt u n =
    let x = get_or ds k d in
    let hit = and_from (x.user == user) (bytes_eq x.name name) (eq-eqb x.user user u) ((bytes_eq-Decides x.name name).1 n) in
    true≢false (sym (list_any_at (λ y. (y.user == user) && bytes_eq y.name name) ds k d lt hit) ∙ none)

new_token : (ds : List Device) (token : List ℕ) → has_token ds token ≡ false → (k : ℕ) (d : Device) → k < length ds → (get_or ds k d).token ≢ token
new_token ds token none k d lt e =
    let x = get_or ds k d in
    true≢false (sym (list_any_at (λ y. bytes_eq y.token token) ds k d lt ((bytes_eq-Decides x.token token).1 e)) ∙ none)

pushed_device : (u : Users) (d : Device) → IsUsers u → IsDeviceOf (length u.users) d → has_name u.devices d.user d.name ≡ false → has_token u.devices d.token ≡ false → length u.devices < 8192
    → IsUsers (record { server = u.server; users = u.users; devices = u.devices ++ d ∷ [] })
pushed_device u d is of names tokens few = record {
  server = is.server;
  few_users = is.few_users;
  few_devices = omega (arith, few, length_push u.devices d);
  users = is.users;
  devices = All-push (IsDeviceOf (length u.users)) u.devices d is.devices of;
  users_once = is.users_once;
  names_once = all_pairs_push (λ (x y : Device). x.user ≡ y.user → x.name ≢ y.name) u.devices d is.names_once (new_name u.devices d.user d.name names);
  tokens_once = all_pairs_push (λ (x y : Device). x.token ≢ y.token) u.devices d is.tokens_once (new_token u.devices d.token tokens);
}

or_none : (a b : Bool) → (a || b) ≡ false → (a ≡ false) × (b ≡ false)
or_none true b h = absurd (true≢false h)
or_none false b h = (refl, h)

device_at : (u m : Users) (d : Device) (here : Bool) → IsUsers u → IsDeviceOf (length u.users) d → (has_name u.devices d.user d.name || has_token u.devices d.token) ≡ here
    → cond here None (cond (ltb (length u.devices) 8192) (Some (record { server = u.server; users = u.users; devices = u.devices ++ d ∷ [] })) None) ≡ Some m → IsServed u.server m
device_at u m d true is of here h = absurd (none-some m h)
device_at u m d false is of none h =
    let more : Users = record { server = u.server; users = u.users; devices = u.devices ++ d ∷ [] } in
    let both = cond_some (ltb (length u.devices) 8192) more m h in
    let apart = or_none (has_name u.devices d.user d.name) (has_token u.devices d.token) none in
    subst (IsServed u.server) both.1 (refl, pushed_device u d is of apart.0 apart.1 (ltb-true (length u.devices) 8192 both.0))

with_device_valid : (u m : Users) (user : ℕ) (name token : List ℕ) → IsUsers u → user < length u.users → is_device_name name ≡ true → is_access_token token ≡ true → with_device u user name token ≡ Some m → IsServed u.server m
unfolding with_device
with_device_valid u m user name token is lt n t h = device_at u m (record { user = user; name = name; token = token }) (has_name u.devices user name || has_token u.devices token) is (lt, n, t) refl h

-- ---- a line

-- a user id is at most 255 bytes long
short_id : (id : List ℕ) → is_user_id_text id ≡ true → length id ≤ 255
unfolding is_user_id_text
short_id id h =
    let colon : ℕ → Bool = λ c. c == 58 in
    leb-true (length id) 255 (and_parts (leb (length id) 255) (is_sigil_and_visible (before_first colon id)) (and_parts (leb (length id) 255 && is_sigil_and_visible (before_first colon id)) (is_visible (server_part id)) h).0).0

with_parts_valid : (u m : Users) (localpart name token : List ℕ) → IsUsers u → with_parts u localpart name token ≡ Some m → IsServed u.server m
unfolding with_parts
with_parts_valid u m localpart name token is h =
    let id = user_id_text localpart u.server in
    let test = cond_then (is_localpart localpart && is_user_id_text id && is_device_name name && is_access_token token) _ m h in
    let tokens = and_parts (is_localpart localpart && is_user_id_text id && is_device_name name) (is_access_token token) test.0 in
    let names = and_parts (is_localpart localpart && is_user_id_text id) (is_device_name name) tokens.0 in
    let users = and_parts (is_localpart localpart) (is_user_id_text id) names.0 in
    option_and_then_some (λ more. with_device more (number_of more.users id) name token) (with_user u id) m test.1
    (λ more e f.
    let has = with_user_valid u more id is (localpart, refl, users.0, short_id id users.1) e in
    let served = with_device_valid more m (number_of more.users id) name token has.0.1 has.1 names.1 tokens.1 f in
    (served.0 ∙ has.0.0, served.1))
  where
    cond_then : {A : Type 0} (b : Bool) (x : Option A) (y : A) → cond b x None ≡ Some y → (b ≡ true) × (x ≡ Some y)
    cond_then true x y h = (refl, h)
    cond_then false x y h = absurd (none-some y h)

with_text_valid : (u m : Users) (line : List ℕ) → IsUsers u → with_text u line ≡ Some m → IsUsers m
with_text_valid u m line is h = (with_parts_valid u m (word_of line) (word_of (behind_word line)) (behind_word (behind_word line)) is h).1

with_line_valid : (u m : Users) (line : List ℕ) → IsUsers u → with_line u line ≡ Some m → IsUsers m
with_line_valid u m line is h = by (length line == 0) (is_utf8 line) h
  where
    by : (empty text : Bool) → cond empty (Some u) (cond text (with_text u line) None) ≡ Some m → IsUsers m
    by true text e = subst IsUsers (same_Some u m e) is
    by false true e = with_text_valid u m line is e
    by false false e = absurd (none-some m e)

-- ---- the file

only_server_valid : (server : List ℕ) → is_server_name server ≡ true → IsUsers (only_server server)
only_server_valid server h = record {
  server = h;
  few_users = omega arith;
  few_devices = omega arith;
  users = λ k d lt. absurd (omega (arith, lt));
  devices = λ k d lt. absurd (omega (arith, lt));
  users_once = λ i j d below lt. absurd (omega (arith, lt));
  names_once = λ i j d below lt. absurd (omega (arith, lt));
  tokens_once = λ i j d below lt. absurd (omega (arith, lt));
}

server_of_valid : (line server : List ℕ) → server_of line ≡ Some server → is_server_name server ≡ true
unfolding server_of
server_of_valid line server h =
    let both = cond_some (bytes_eq (word_of line) (codes "server") && is_server_name (behind_word line)) (behind_word line) server h in
    subst (λ s. is_server_name s ≡ true) both.1 (and_parts (bytes_eq (word_of line) (codes "server")) (is_server_name (behind_word line)) both.0).1

server_in_valid : (line server : List ℕ) → server_in line ≡ Some server → is_server_name server ≡ true
server_in_valid line server h = by (is_utf8 line) h
  where
    by : (text : Bool) → cond text (server_of line) None ≡ Some server → is_server_name server ≡ true
    by true e = server_of_valid line server e
    by false e = absurd (none-some server e)

chained : {A : Type 0} (o : Option A) (n : ℕ) (f : A → Result Users ℕ) → ((x : A) → o ≡ Some x → IfOk (f x) IsUsers) → IfOk (and_then f (ok_or o n)) IsUsers
chained None n f h = tt
chained (Some x) n f h = h x refl

with_lines_valid : (u : Users) (before : ℕ) (lines : List (List ℕ)) → IsUsers u → IfOk (with_lines u before lines) IsUsers
with_lines_valid u before [] is = is
with_lines_valid u before (line ∷ lines) is = chained (with_line u line) (before + 1) _ (λ more e. with_lines_valid more (before + 1) lines (with_line_valid u more line is e))

lines_valid : (before : ℕ) (lines : List (List ℕ)) → IfOk (users_of_lines before lines) IsUsers
lines_valid before [] = tt
lines_valid before (line ∷ lines) = by (length line == 0) (lines_valid (before + 1) lines)
  where
    rest : List ℕ → Result Users ℕ
    rest server = with_lines (only_server server) (before + 1) lines

    by : (empty : Bool) → IfOk (users_of_lines (before + 1) lines) IsUsers → IfOk (cond empty (users_of_lines (before + 1) lines) (and_then rest (ok_or (server_in line) (before + 1)))) IsUsers
    by true later = later
    by false later = chained (server_in line) (before + 1) rest (λ server e. with_lines_valid _ (before + 1) lines (only_server_valid server (server_in_valid line server e)))

pub users_in_valid : (bytes : List ℕ) (m : Users) → users_in bytes ≡ Ok m → IsUsers m
unfolding users_in
users_in_valid bytes m h = subst (λ r. IfOk r IsUsers) h (lines_valid 0 (slice_split (λ c. c == 10) bytes))

-- what isn't a user id fails the test
pub refused : (text : List ℕ) → (IsUserId text → ⊥) → is_user_id_text text ≡ false
refused text h = ⊎_elim (λ is. absurd (h (user_from_test text is))) (λ e. e) (cases_Bool (is_user_id_text text))
