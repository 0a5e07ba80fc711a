-- What is found among the users of a server.
use Rattle.std.specs.Prelude.{◌≡◌, ℕ, List, [], Option, option_and_then, option_map, position, slice_get, unwrap_or}
use Rattle.std.specs.BTreeMap as tree
use Rattle.std.specs.BTreeMap.{BTreeMap}
use Rattle.std.specs.Cmp.Lexicographic.{slice_cmp}
use Rattle.std.specs.Ordering.{nat_cmp}
use Rattle.std.specs.Str.{bytes_eq}
use Rattle.mx_ids.specs.Users.{IsUsers}
use Rattle.mx_ids.specs.declared.users.Device.{Device}
use Rattle.mx_ids.specs.declared.users.Users.{Users}

-- the number of the user with this id
abbrev pub user_at : List (List ℕ) → List ℕ → Option ℕ
user_at users id = position (λ u. bytes_eq u id) users

-- the number of the device that has this access token
abbrev pub device_at : List Device → List ℕ → Option ℕ
device_at devices token = position (λ d. bytes_eq d.token token) devices

-- the id of a device's user
abbrev pub user_of : Users → ℕ → List ℕ
user_of users device = unwrap_or (option_and_then (λ d. slice_get users.users d.user) (slice_get users.devices device)) []

-- the user and the device that have an access token
abbrev pub caller_of : Users → List ℕ → Option (List ℕ × ℕ)
caller_of users token = option_map (λ device. (user_of users device, device)) (device_at users.devices token)

-- valid users, and maps that have the number of each user by its id and of each device by its access token
pub record IsFound (users : Users) (numbers tokens : BTreeMap (List ℕ) ℕ) : Type 0 where
  pub valid : IsUsers users
  pub numbered : (id : List ℕ) → tree.get (slice_cmp nat_cmp) numbers id ≡ user_at users.users id
  pub tokened : (token : List ℕ) → tree.get (slice_cmp nat_cmp) tokens token ≡ device_at users.devices token
