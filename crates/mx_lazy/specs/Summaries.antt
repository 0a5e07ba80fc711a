-- The summary of a room (Client-Server API, Syncing, RoomSummary), over its events or over the member events of its state.
use Rattle.std.specs.Prelude.{ℕ, Bool, false, true, not, ◌&&◌, ◌||◌, List, [], ◌∷◌, map, filter, length, take, Option, Some, None, unwrap_or, nat_eq, if◌then◌else◌}
use Rattle.std.specs.Str.{bytes_eq}
use Rattle.mx_event.specs.Kinds.{is_text}
use Rattle.mx_event.specs.declared.event.Event.{Event}
use Rattle.mx_folding.specs.Visible.{Membership, Join, Invite, Leave, Ban, is_join, is_invite}
use Rattle.mx_view.specs.Readings.{membership_of}
use Rattle.mx_lazy.specs.Members.{members_at}
use Rattle.mx_lazy.specs.declared.room_summary.Summary.{Summary}

-- the user whose member event it is
abbrev pub user_of : Event → List ℕ
user_of e = unwrap_or e.state_key []

abbrev pub has_gone : Option Membership → Bool
has_gone None = false
has_gone (Some Join) = false
has_gone (Some Invite) = false
has_gone (Some Leave) = true
has_gone (Some Ban) = true

abbrev pub joined_by : Event → Bool
joined_by e = is_join (membership_of e)

abbrev pub invited_by : Event → Bool
invited_by e = is_invite (membership_of e)

-- the user left or is banned
abbrev pub has_left : Event → Bool
has_left e = has_gone (membership_of e)

-- the user left or is banned; or it is joined or invited
abbrev pub stands : Bool → Event → Bool
stands gone e = if gone then has_left e else joined_by e || invited_by e

-- another user that stands so
abbrev pub is_hero : Bool → List ℕ → Event → Bool
is_hero gone user e = not (is_text user e.state_key) && stands gone e

abbrev pub first_five : List Event → List (List ℕ)
first_five es = take 5 (map user_of es)

-- the first, or the second where there is none
abbrev pub or_else : List (List ℕ) → List (List ℕ) → List (List ℕ)
or_else [] other = other
or_else (x ∷ xs) other = x ∷ xs

-- the first five others who are joined or invited; if there is none, the first five who left or are banned
abbrev pub heroes_of : List ℕ → List Event → List (List ℕ)
heroes_of user ms = or_else (first_five (filter (is_hero false user) ms)) (first_five (filter (is_hero true user) ms))

abbrev pub summary_of : List ℕ → List Event → Summary
summary_of user ms = record { heroes = heroes_of user ms; joined = length (filter joined_by ms); invited = length (filter invited_by ms) }

abbrev pub summary_at : List ℕ → List Event → ℕ → Summary
summary_at user es p = summary_of user (members_at es p)

abbrev pub same_texts : List (List ℕ) → List (List ℕ) → Bool
same_texts [] [] = true
same_texts [] (y ∷ ys) = false
same_texts (x ∷ xs) [] = false
same_texts (x ∷ xs) (y ∷ ys) = bytes_eq x y && same_texts xs ys

abbrev pub same_summary : Summary → Summary → Bool
same_summary a b = same_texts a.heroes b.heroes && (nat_eq a.joined b.joined && nat_eq a.invited b.invited)

-- ---- what the code does

abbrev pub one_hero : Bool → List ℕ → Event → List (List ℕ)
one_hero gone user e = if is_hero gone user e then user_of e ∷ [] else []
