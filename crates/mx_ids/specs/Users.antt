-- The users of a server and their devices.
use Rattle.std.specs.Prelude.{◌≡◌, ◌≢◌, ℕ, ◌<◌, ◌≤◌, true, length, List, All, AllPairs}
use Rattle.mx_ids.specs.Name.{is_server_name, is_localpart, is_device_name, is_access_token}
use Rattle.mx_ids.specs.User.{user_id_text}
use Rattle.mx_ids.specs.declared.users.Device.{Device}
use Rattle.mx_ids.specs.declared.users.Users.{Users}

-- a user id of a server, with a localpart that the users file can give
abbrev pub IsUserOf : List ℕ → List ℕ → Type 0
IsUserOf server id = (localpart : List ℕ) × (id ≡ user_id_text localpart server) × (is_localpart localpart ≡ true) × (length id ≤ 255)

-- a device of one of so many users
abbrev pub IsDeviceOf : ℕ → Device → Type 0
IsDeviceOf users device = (device.user < users) × (is_device_name device.name ≡ true) × (is_access_token device.token ≡ true)

-- a server's users, each once, and their devices, with each pair of user and device name and each token once
pub record IsUsers (u : Users) : Type 0 where
  pub server : is_server_name u.server ≡ true
  pub few_users : length u.users ≤ 4096
  pub few_devices : length u.devices ≤ 8192
  pub users : All (IsUserOf u.server) u.users
  pub devices : All (IsDeviceOf (length u.users)) u.devices
  pub users_once : AllPairs (λ x y. x ≢ y) u.users
  pub names_once : AllPairs (λ (x y : Device). x.user ≡ y.user → x.name ≢ y.name) u.devices
  pub tokens_once : AllPairs (λ (x y : Device). x.token ≢ y.token) u.devices
