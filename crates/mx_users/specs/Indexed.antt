-- What the indices of a list of users and devices have of it.
use Rattle.std.specs.Prelude.{◌≡◌, ℕ, List, [], ◌∷◌, ◌++◌}
use Rattle.std.specs.BTreeMap as tree
use Rattle.std.specs.BTreeMap.{BTreeMap}
use Rattle.std.specs.BTreeSet as sorted
use Rattle.std.specs.BTreeSet.{BTreeSet}
use Rattle.std.specs.Cmp.Lexicographic.{slice_cmp}
use Rattle.std.specs.Ordering.{nat_cmp, ordering_then}
use Rattle.mx_ids.specs.declared.users.Device.{Device}
use Rattle.mx_ids.specs.declared.users.Users.{Users}
use Rattle.mx_users.specs.Finds.{device_at, user_at}
use Rattle.mx_users.specs.UsersFile.{has_name}

-- the number of each user, by its id
abbrev pub AreNumbered : List (List ℕ) → BTreeMap (List ℕ) ℕ → Type 0
AreNumbered users numbers = (id : List ℕ) → tree.get (slice_cmp nat_cmp) numbers id ≡ user_at users id

-- the user and the name of each device
abbrev pub AreNamed : List Device → BTreeSet (ℕ × List ℕ) → Type 0
AreNamed devices names = (user : ℕ) (name : List ℕ) → sorted.contains (λ x y. ordering_then (nat_cmp x.0 y.0) (slice_cmp nat_cmp x.1 y.1)) names (user, name) ≡ has_name devices user name

-- the number of each device, by its access token
abbrev pub AreTokened : List Device → BTreeMap (List ℕ) ℕ → Type 0
AreTokened devices tokens = (token : List ℕ) → tree.get (slice_cmp nat_cmp) tokens token ≡ device_at devices token

-- the users with one device more
abbrev pub with_one : Users → Device → Users
with_one u d = record { server = u.server; users = u.users; devices = u.devices ++ d ∷ [] }
