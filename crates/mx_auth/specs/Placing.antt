-- The places of a room's events: their positions, each with who sent the event.
use Rattle.std.specs.Prelude.{◌≡◌, ◌<◌, ℕ, List, [], ◌++◌, Bool, true, ◌==◌, length, slice_index_or, String, Some, IsSome}
use Rattle.std.specs.BTreeMap.{BTreeMap, get_by_text}
use Rattle.std.specs.declared.alloc.Global.{Global}
use Rattle.std.specs.List.{AllByRecursion, list_any}
use Rattle.std.specs.Str.{bytes_eq}
use Rattle.mx_auth.specs.declared.places.SentAt.{SentAt}

-- ---- senders

-- the number of each user
abbrev pub Numbers : Type 0
Numbers = BTreeMap (String Global) ℕ

-- users, each at its number
pub record SenderList : Type 0 where
  pub names : List (List ℕ)

-- a user is among some
abbrev pub is_in : List (List ℕ) → List ℕ → Bool
is_in names user = list_any (λ name. bytes_eq name user) names

-- each number is that of the user who stands there, and each user has one
pub record IsNumbered (names : List (List ℕ)) (m : Numbers) : Type 0 where
  pub named : (user : List ℕ) (n : ℕ) → get_by_text m user ≡ Some n → (n < length names) × (slice_index_or names n [] ≡ user)
  pub numbered : (user : List ℕ) → is_in names user ≡ true → IsSome (get_by_text m user)

-- no user is lost
abbrev pub Longer : List (List ℕ) → List (List ℕ) → Type 0
Longer old new = (more : List (List ℕ)) × (new ≡ old ++ more)

-- ---- places

pub record Place : Type 0 where
  pub at : ℕ
  pub sender : List ℕ

-- places in the order of their positions, who sent events, and how many more can be put without memory
pub record PlaceList : Type 0 where
  pub items : List Place
  pub names : List (List ℕ)
  pub spare : ℕ

-- the place that a number names
abbrev pub place_of : List (List ℕ) → SentAt → Place
place_of names s = record { at = s.at; sender = slice_index_or names s.by [] }

-- each number has a name
abbrev pub AreNamed : ℕ → List SentAt → Type 0
AreNamed n ss = AllByRecursion (λ (s : SentAt). s.by < n) ss

abbrev pub sent_position : SentAt → ℕ
sent_position s = s.at

-- a test of a position and a sender
abbrev pub PlaceTest : Type 0
PlaceTest = ℕ → List ℕ → Bool

-- a place passes a test
abbrev pub any_place : PlaceTest → List Place → Bool
any_place test ps = list_any (λ (p : Place). test p.at p.sender) ps

-- an event is at a position
abbrev pub is_sent_at : ℕ → SentAt → Bool
is_sent_at at s = at == s.at
