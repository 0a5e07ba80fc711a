-- The users file: a line `server NAME`, then lines `LOCALPART DEVICE TOKEN`. Lines end with LF, the last may lack
-- it, and empty lines are passed over, but counted.
use Rattle.std.specs.Prelude.{◌≡◌, ℕ, ◌+◌, ◌&&◌, ◌||◌, ◌==◌, List, [], ◌∷◌, ◌++◌, Bool, false, Option, Some, None, Result, Ok, Err, length, nat_lt, nat_eq, ok_or, if◌then◌else◌, option_and_then, codes}
use Rattle.std.specs.List.{list_any, position_or_len, before_first, after_first, slice_split}
use Rattle.std.specs.Str.{bytes_eq, is_utf8}
use Rattle.mx_ids.specs.Name.{is_server_name, is_localpart, is_device_name, is_access_token}
use Rattle.mx_ids.specs.User.{is_user_id_text, user_id_text}
use Rattle.mx_ids.specs.declared.users.Users.{Users}
use Rattle.mx_ids.specs.declared.users.Device.{Device}
use Rattle.mx_users.specs.declared.fault.UsersFault.{UsersFault}
use Rattle.mx_users.specs.declared.fault.UsersFault.TheVariants as faults

-- what stands before the first space, or all where there is none
abbrev pub word_of : List ℕ → List ℕ
word_of text = before_first (λ c. c == 32) text

-- what stands behind the first space, or nothing where there is none
abbrev pub behind_word : List ℕ → List ℕ
behind_word text = after_first (λ c. c == 32) text

-- the number of the user with this id: its place among the users, or the next number where it isn't among them
abbrev pub number_of : List (List ℕ) → List ℕ → ℕ
number_of users id = position_or_len (λ u. bytes_eq u id) users

-- whether the user has a device of this name
abbrev pub has_name : List Device → ℕ → List ℕ → Bool
has_name devices user name = list_any (λ d. nat_eq d.user user && bytes_eq d.name name) devices

-- whether a device has this token
abbrev pub has_token : List Device → List ℕ → Bool
has_token devices token = list_any (λ d. bytes_eq d.token token) devices

-- the users with the one of this id, or none where it would be the 4,097th
unfoldable pub with_user : Users → List ℕ → Option Users
with_user u id =
    if nat_lt (number_of u.users id) (length u.users) then Some u
    else (if nat_lt (length u.users) 4096 then Some (record { server = u.server; users = u.users ++ id ∷ []; devices = u.devices }) else None)

-- the users with one device more, or none where its user has one of this name, a device has its token, or it would be the 8,193rd
unfoldable pub with_device : Users → ℕ → List ℕ → List ℕ → Option Users
with_device u user name token =
    if has_name u.devices user name || has_token u.devices token then None
    else (if nat_lt (length u.devices) 8192 then Some (record { server = u.server; users = u.users; devices = u.devices ++ record { user = user; name = name; token = token } ∷ [] }) else None)

-- the users with those of a line of these parts, or none where the line may not follow
unfoldable pub with_parts : Users → List ℕ → List ℕ → List ℕ → Option Users
with_parts u localpart name token =
    let id = user_id_text localpart u.server in
    if is_localpart localpart && is_user_id_text id && is_device_name name && is_access_token token
    then option_and_then (λ more. with_device more (number_of more.users id) name token) (with_user u id)
    else None

-- the users with those of a line's text: a localpart, a device and a token, with single spaces between
abbrev pub with_text : Users → List ℕ → Option Users
with_text u line = with_parts u (word_of line) (word_of (behind_word line)) (behind_word (behind_word line))

-- the same by the line's bytes, or none where they aren't UTF-8
abbrev pub with_bytes : Users → List ℕ → Option Users
with_bytes u line = if is_utf8 line then with_text u line else None

-- the users with those of one line, or none where it may not follow; an empty line has none
abbrev pub with_line : Users → List ℕ → Option Users
with_line u line = if length line == 0 then Some u else with_bytes u line

abbrev pub and_then : {A B : Type 0} → (A → Result B ℕ) → Result A ℕ → Result B ℕ
and_then f (Ok x) = f x
and_then f (Err n) = Err n

-- the users with those of these lines, behind so many others, or the number of the first line that may not follow
abbrev pub with_lines : Users → ℕ → List (List ℕ) → Result Users ℕ
with_lines u before [] = Ok u
with_lines u before (line ∷ lines) = and_then (λ more. with_lines more (before + 1) lines) (ok_or (with_line u line) (before + 1))

-- the server that the first line's text names
unfoldable pub server_of : List ℕ → Option (List ℕ)
server_of line = if bytes_eq (word_of line) (codes "server") && is_server_name (behind_word line) then Some (behind_word line) else None

-- the server that the first line names
abbrev pub server_in : List ℕ → Option (List ℕ)
server_in line = if is_utf8 line then server_of line else None

-- a server without users
abbrev pub only_server : List ℕ → Users
only_server server = record { server = server; users = []; devices = [] }

-- the users of these lines, behind so many empty ones, or the number of the first line that breaks the form; 1 where all are empty
abbrev pub users_of_lines : ℕ → List (List ℕ) → Result Users ℕ
users_of_lines before [] = Err 1
users_of_lines before (line ∷ lines) =
    if length line == 0 then users_of_lines (before + 1) lines
    else and_then (λ server. with_lines (only_server server) (before + 1) lines) (ok_or (server_in line) (before + 1))

-- the users of a file, or the number of the first line that breaks the form, from 1
unfoldable pub users_in : List ℕ → Result Users ℕ
users_in bytes = users_of_lines 0 (slice_split (λ c. c == 10) bytes)

-- A reader's answer: the users, or the number of a line, or want of memory.
abbrev pub Reads : {A : Type 0} → Result Users ℕ → (A → Users) → Result A UsersFault → Type 0
Reads told users (Ok x) = told ≡ Ok (users x)
Reads told users (Err (faults.Line n)) = told ≡ Err n
Reads told users (Err (faults.Memory _)) = Unit {0}

-- the first line isn't empty, or there is no byte
abbrev pub starts_full : List ℕ → Type 0
starts_full [] = Unit {0}
starts_full (c ∷ cs) = (c == 10) ≡ false
