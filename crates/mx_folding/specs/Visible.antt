-- Which events a user may see (Client-Server API, Room History Visibility), over events of any type.
use Rattle.std.specs.Prelude.{◌≡◌, ℕ, ◌-◌, ◌≤◌, Bool, true, false, not, ◌&&◌, ◌||◌, List, Option, Some, None}
use Rattle.std.specs.Option.{option_map, option_and_then, unwrap_or}
use Rattle.std.specs.List.{list_any, AllByRecursion}
use Rattle.mx_window.specs.Windows.{Ascends, between}
use Rattle.mx_window.specs.Lasts.{last_of}

pub data Membership : Type 0 where
  Join : Membership
  Invite : Membership
  Leave : Membership
  Ban : Membership

pub data HistoryVisibility : Type 0 where
  WorldReadable : HistoryVisibility
  SharedSince : HistoryVisibility
  InvitedSince : HistoryVisibility
  JoinedSince : HistoryVisibility

-- how one user's view of a room reads its events
pub record Viewer (E : Type 0) : Type 0 where
  pub at : E → ℕ
  -- it is the user's member event
  pub is_own : E → Bool
  -- the membership that a member event gives, if it is one that there is
  pub membership : E → Option Membership
  -- it is the room's history-visibility event
  pub is_setting : E → Bool
  -- the visibility that such an event gives; an absent or unknown value is read as `SharedSince`
  pub setting : E → HistoryVisibility

abbrev pub is_join : Option Membership → Bool
is_join None = false
is_join (Some Join) = true
is_join (Some Invite) = false
is_join (Some Leave) = false
is_join (Some Ban) = false

abbrev pub is_invite : Option Membership → Bool
is_invite None = false
is_invite (Some Join) = false
is_invite (Some Invite) = true
is_invite (Some Leave) = false
is_invite (Some Ban) = false

-- the membership that stands after these events
abbrev pub membership_after : {E : Type 0} → Viewer E → List E → Option Membership
membership_after v before = option_and_then v.membership (last_of v.is_own before)

-- the visibility that stands after these events
abbrev pub visibility_after : {E : Type 0} → Viewer E → List E → HistoryVisibility
visibility_after v before = unwrap_or (option_map v.setting (last_of v.is_setting before)) SharedSince

-- the user is joined, or the visibility lets it see the event: to anyone; since the event was shared, where the user
-- joined later; or since it was invited
abbrev pub is_allowed : HistoryVisibility → Option Membership → Bool → Bool
is_allowed WorldReadable own later = true
is_allowed SharedSince own later = is_join own || later
is_allowed InvitedSince own later = is_join own || is_invite own
is_allowed JoinedSince own later = is_join own

abbrev pub allows_after : {E : Type 0} → Viewer E → Bool → List E → Bool
allows_after v later before = is_allowed (visibility_after v before) (membership_after v before) later

-- the user joins after the position and up to the front
abbrev pub joins_later : {E : Type 0} → Viewer E → List E → ℕ → ℕ → Bool
joins_later v es p front = list_any (λ e. v.is_own e && is_join (v.membership e)) (between v.at p front es)

-- the state at the event allows it; for the user's member event and a history-visibility event the state before it may
abbrev pub is_visible : {E : Type 0} → Viewer E → List E → ℕ → E → Bool
is_visible v es front e =
    allows_after v (joins_later v es (v.at e) front) (between v.at 0 (v.at e) es)
    || ((v.is_own e || v.is_setting e) && allows_after v (joins_later v es (v.at e) front) (between v.at 0 (v.at e - 1) es))

abbrev pub joined_at : {E : Type 0} → Viewer E → List E → ℕ → Bool
joined_at v es p = is_join (membership_after v (between v.at 0 p es))

-- the user was joined at every position from the first to the second
abbrev pub stayed_joined : {E : Type 0} → Viewer E → List E → ℕ → ℕ → Bool
stayed_joined v es b t = joined_at v es b && not (list_any (λ e. v.is_own e && not (is_join (v.membership e))) (between v.at b t es))

-- What a user who is joined at s may see of the events up to s is the same at every later front.
abbrev pub StaysVisible : Type 0 → Type 0
StaysVisible E = (v : Viewer E) (es : List E) → Ascends v.at 0 es → (s t : ℕ) → s ≤ t → joined_at v es s ≡ true
    → AllByRecursion (λ e. is_visible v es t e ≡ is_visible v es s e) (between v.at 0 s es)
