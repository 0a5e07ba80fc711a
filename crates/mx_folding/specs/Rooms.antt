-- One room as a user's sync filter reads it, over events of any type E with state keys of any type K.
-- A state key here is a pair of event type and state key (Client-Server API, Room state).
use Rattle.std.specs.Prelude.{◌≡◌, ◌↔◌, ℕ, ◌<◌, ◌≤◌, Bool, true, false, ◌&&◌, List, Option, Some, None, is_some}
use Rattle.std.specs.List.{AllByRecursion}
use Rattle.mx_window.specs.Windows.{Ascends, between}
use Rattle.mx_window.specs.Lasts.{last_of}

pub record Room (E K : Type 0) : Type 0 where
  -- the event's position in the stream
  pub at : E → ℕ
  -- the state key of a state event; another event has none
  pub key : E → Option K
  -- the key of the member event of the event's sender
  pub sender : E → K
  -- the key of the user's own member event
  pub own : K
  -- the key is that of a member event
  pub member : K → Bool
  -- the keys are equal
  pub same : K → K → Bool
  -- the state filter passes the event
  pub keeps : E → Bool
  -- the state filter passes the state events of the key
  pub passes : K → Bool
  -- it is visible to the user at the given front, and the timeline filter passes it
  pub sends : ℕ → E → Bool
  -- what redaction leaves of it
  pub red : E → E
  -- the position of the event that it redacts
  pub names : E → Option ℕ
  -- the state filter has lazy_load_members
  pub lazy : Bool
  -- the user was joined at every position from the first to the second
  pub stayed : ℕ → ℕ → Bool

-- there is a key, and it passes the test
abbrev pub key_is : {K : Type 0} → (K → Bool) → Option K → Bool
key_is test None = false
key_is test (Some k) = test k

abbrev pub is_state : {E K : Type 0} → Room E K → E → Bool
is_state r e = is_some (r.key e)

-- a state event that the state filter passes
abbrev pub is_kept : {E K : Type 0} → Room E K → E → Bool
is_kept r e = is_state r e && r.keeps e

-- the state event under a key that the state filter passes
abbrev pub has : {E K : Type 0} → Room E K → K → E → Bool
has r k e = key_is (r.same k) (r.key e) && r.passes k

-- the second event sets what the first sets
abbrev pub sets_same : {E K : Type 0} → Room E K → E → E → Bool
sets_same r e d = key_is (λ k. key_is (r.same k) (r.key d)) (r.key e)

-- the member key of the event's sender is the given one
abbrev pub wrote : {E K : Type 0} → Room E K → K → E → Bool
wrote r k e = r.same k (r.sender e)

-- the key is that of the user's own member event
abbrev pub mine : {E K : Type 0} → Room E K → K → Bool
mine r k = r.same k r.own

-- the state at a position, by key, as far as the state filter passes it
abbrev pub state_at : {E K : Type 0} → Room E K → List E → ℕ → K → Option E
state_at r es p k = last_of (has r k) (between r.at 0 p es)

-- what the laws ask of a room's list and of the filter that reads it
pub record IsRoom {E K : Type 0} (r : Room E K) (es : List E) : Type 0 where
  -- the list is in order of position, and positions begin at 1
  pub ascends : Ascends r.at 0 es
  -- one equality of keys
  pub keys : (k l : K) → (r.same k l ≡ true) ↔ (k ≡ l)
  -- the state filter picks by key: by type and room
  pub kept : (k : K) (e : E) → r.key e ≡ Some k → r.keeps e ≡ r.passes k
  -- redaction keeps position, key, sender and what a redaction names, and what is redacted stays so
  pub red_at : (e : E) → r.at (r.red e) ≡ r.at e
  pub red_key : (e : E) → r.key (r.red e) ≡ r.key e
  pub red_sender : (e : E) → r.sender (r.red e) ≡ r.sender e
  pub red_names : (e : E) → r.names (r.red e) ≡ r.names e
  pub red_red : (e : E) → r.red (r.red e) ≡ r.red e
  -- a redaction names an earlier event
  pub earlier : AllByRecursion (λ e. (p : ℕ) → r.names e ≡ Some p → p < r.at e) es
  -- who stayed to a later position stayed to an earlier one
  pub stayed_less : (b s t : ℕ) → b ≤ s → s ≤ t → r.stayed b t ≡ true → r.stayed b s ≡ true

-- what the user may see up to s stays as it is at every later front
abbrev pub StaysSent : {E K : Type 0} → Room E K → List E → ℕ → Type 0
StaysSent r es s = (t : ℕ) → s ≤ t → AllByRecursion (λ e. r.sends t e ≡ r.sends s e) (between r.at 0 s es)
