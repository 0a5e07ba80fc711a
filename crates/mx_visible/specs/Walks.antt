-- A room's events, walked through once: what a user sees of each.
use Rattle.std.specs.Prelude.{◌≡◌, ℕ, ◌-◌, Bool, ◌&&◌, ◌||◌, List, [], ◌∷◌, ◌++◌, Option, option_map, unwrap_or, map, nat_lt, if◌then◌else◌, Some}
use Rattle.std.specs.Option.{option_and_then}
use Rattle.mx_window.specs.Lasts.{last_at, last_of}
use Rattle.mx_window.specs.Windows.{Ascends, between}
use Rattle.mx_event.specs.Shown.{position_of}
use Rattle.mx_event.specs.declared.event.Event.{Event}
use Rattle.mx_folding.specs.Visible.{SharedSince, is_join, is_allowed, is_visible}
use Rattle.mx_view.specs.Readings.{membership_of, setting_of, is_own, is_setting, viewer_of}
use Rattle.mx_visible.specs.declared.sights.Sighted.{Sighted}

-- the user's own event by which it joins
abbrev pub joins : List ℕ → Event → Bool
joins user e = is_own user e && is_join (membership_of e)

-- the position of the last event of a room up to a front by which the user joins, or 0
abbrev pub last_join : List ℕ → ℕ → List Event → ℕ
last_join user front es = last_at position_of 0 (last_of (joins user) (between position_of 0 front es))

-- the user's member event or a history-visibility event: between two of them the user sees all of a room's events or none
abbrev pub is_mark : List ℕ → Event → Bool
is_mark user e = is_own user e || is_setting e

-- the position of the last such event of a room up to a position, or 0
abbrev pub last_mark : List ℕ → ℕ → List Event → ℕ
last_mark user high es = last_at position_of 0 (last_of (is_mark user) (between position_of 0 high es))

-- the position of the last event of a window that the user sees at a front, or the window's lower end
abbrev pub last_visible : List ℕ → List Event → ℕ → ℕ → ℕ → ℕ
last_visible user es low high front = last_at position_of low (last_of (is_visible (viewer_of user) es front) (between position_of low high es))

-- events of a room, each with whether the user sees it at a front
abbrev pub sights : List ℕ → List Event → ℕ → List Event → List (Event × Bool)
sights user es front window = map (λ e. (e, is_visible (viewer_of user) es front e)) window

-- what stands before a window of a room's list
pub record IsStanding (user : List ℕ) (front : ℕ) (past rest window : List Event) (own setting : Option Event) (last : ℕ) : Type 0 where
  pub ascends : Ascends position_of 0 (past ++ (window ++ rest))
  pub own_is : own ≡ last_of (is_own user) past
  pub setting_is : setting ≡ last_of is_setting past
  pub last_is : last ≡ last_join user front (past ++ (window ++ rest))

-- ---- what the code does

-- where an event of a room is hidden, so are those before it that lie after this position
abbrev pub hidden_after : List ℕ → List Event → Event → ℕ
hidden_after user es e = if is_mark user e then e.id.at - 1 else last_mark user (e.id.at - 1) es

-- what stands under a key after one event more
abbrev pub newer : Bool → Event → Option Event → Option Event
newer test e old = if test then Some e else old

-- the setting and the membership that stand allow it
abbrev pub allows : Option Event → Option Event → Bool → Bool
allows own setting later = is_allowed (unwrap_or (option_map setting_of setting) SharedSince) (option_and_then membership_of own) later

-- so does the state of a room at a position
abbrev pub allowed_at : List ℕ → List Event → ℕ → Bool → Bool
allowed_at user es at later = allows (last_of (is_own user) (between position_of 0 at es)) (last_of is_setting (between position_of 0 at es)) later

-- the state at an event lets the user see it, or for the user's member event and a history-visibility event the state before
abbrev pub allowed_about : List ℕ → List Event → Bool → Event → Bool
allowed_about user es later e = allowed_at user es e.id.at later || ((is_own user e || is_setting e) && allowed_at user es (e.id.at - 1) later)

-- the user sees an event, by what stands before it and by whether the user joins later
abbrev pub sees : List ℕ → Option Event → Option Event → Bool → Event → Bool
sees user own setting later e =
    allows (newer (is_own user e) e own) (newer (is_setting e) e setting) later || ((is_own user e || is_setting e) && allows own setting later)

-- the events with whether the user sees them, by what stands before them and by the position of the user's last join
abbrev pub walked : List ℕ → ℕ → Option Event → Option Event → List Event → List (Event × Bool)
walked user last own setting [] = []
walked user last own setting (e ∷ es) =
    (e, sees user own setting (nat_lt e.id.at last) e) ∷ walked user last (newer (is_own user e) e own) (newer (is_setting e) e setting) es

abbrev pub sighted : Sighted → Event × Bool
sighted s = (s.event.now, s.seen)

abbrev pub all_sighted : List Sighted → List (Event × Bool)
all_sighted made = map sighted made
