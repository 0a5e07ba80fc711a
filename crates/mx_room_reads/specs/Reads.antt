-- What a user is told of a room, by the lists up to their fronts.
use Rattle.std.specs.Prelude.{◌≡◌, ℕ, ◌^◌, ◌-◌, ◌||◌, Bool, true, not, cond, List, map, nat_eq, Option, Some, None, is_some, option_and_then, option_map, unwrap_or}
use Rattle.std.specs.List.{filter, AllByRecursion}
use Rattle.mx_ask.specs.declared.refusal.Refusal.TheVariants as refusal
use Rattle.mx_ask.specs.declared.said.Said.{Said}
use Rattle.mx_ask.specs.declared.said.Said.TheVariants as said
use Rattle.mx_ids.specs.Ids.{event_id_at}
use Rattle.mx_ids.specs.User.{server_of}
use Rattle.mx_ids.specs.declared.event_id.EventId.{EventId}
use Rattle.mx_ids.specs.declared.room_id.RoomId.{RoomId}
use Rattle.mx_window.specs.Lasts.{keep_if}
use Rattle.mx_window.specs.Windows.{between}
use Rattle.mx_event.specs.Kinds.{is_text}
use Rattle.mx_event.specs.Lawful.{same_room}
use Rattle.mx_event.specs.Shown.{first_of, position_of, shown}
use Rattle.mx_event.specs.State.{membership_in, standing}
use Rattle.mx_event.specs.declared.event.Event.{Event}
use Rattle.mx_event.specs.declared.event.Shown.{Shown}
use Rattle.mx_folding.specs.Parts.{state_list}
use Rattle.mx_folding.specs.Visible.{is_join, is_visible}
use Rattle.mx_view.specs.Readings.{membership_of, viewer_of}
use Rattle.mx_view.specs.Shows.{shown_for}
use Rattle.mx_snapshot.specs.Events.{rooms_of}
use Rattle.mx_snapshot.specs.Looks.{at_position}
use Rattle.mx_parts.specs.Lazy.Members.{members_at, plain}
use Rattle.mx_fold.specs.Lists.{Lists, events_in}
use Rattle.mx_room_reads.specs.Places.{front_of, has_room, place_of}

abbrev pub not_found : Said
not_found = said.Refused refusal.NotFound

abbrev pub forbidden : Said
forbidden = said.Refused refusal.Forbidden

-- it is an event of the room, found at its position
abbrev pub IsListed : Lists → RoomId → Event → Type 0
IsListed l room e = (at_position l.events e.id.at ≡ Some e) × (same_room e.room room ≡ true)

abbrev pub AreListed : Lists → RoomId → List Event → Type 0
AreListed l room es = AllByRecursion (IsListed l room) es

-- events of a room as they are shown to the user at the front
abbrev pub shown_to : Lists → List ℕ → RoomId → Event → Shown
shown_to l user room e = shown_for user (events_in l room) (front_of l) e

abbrev pub all_shown : Lists → List ℕ → RoomId → List Event → List Shown
all_shown l user room es = map (shown_to l user room) es

-- ---- the rooms of a user

-- of rooms, each with the user's last member event, those where it is a join
abbrev pub joined_of : List (RoomId × Event) → List RoomId
joined_of rooms = map (λ (p : RoomId × Event). p.0) (filter (λ (p : RoomId × Event). is_join (membership_of p.1)) rooms)

unfoldable pub joined_rooms_said : Lists → List ℕ → Said
joined_rooms_said l user = said.Rooms (joined_of (rooms_of user l.events))

-- ---- the state of a room

-- what is read at a position, by a user that once was joined
abbrev pub read_at : (ℕ → Said) → Option ℕ → Said
read_at read None = forbidden
read_at read (Some place) = read place

-- the event that stands under a key at a position, or at the front where there is none
abbrev pub standing_from : Lists → RoomId → List ℕ → List ℕ → Option ℕ → Option Event
standing_from l room kind key place = standing kind key (between position_of 0 (unwrap_or place (front_of l)) (events_in l room))

-- its content
abbrev pub content_said : Bool → Option Event → Said
content_said was_joined None = not_found
content_said was_joined (Some e) = cond was_joined (said.Content e.content) forbidden

unfoldable pub state_content_said : Lists → List ℕ → RoomId → List ℕ → List ℕ → Said
state_content_said l user room kind key =
    cond (has_room l room)
    (content_said (is_some (place_of l user room))
    (option_map (λ (e : Event). shown (events_in l room) e (front_of l)) (standing_from l room kind key (place_of l user room))))
    not_found

-- all state at a position
abbrev pub state_said : Lists → List ℕ → RoomId → ℕ → Said
state_said l user room place = said.State (all_shown l user room (state_list plain (events_in l room) place))

unfoldable pub room_state_said : Lists → List ℕ → RoomId → Said
room_state_said l user room = cond (has_room l room) (read_at (state_said l user room) (place_of l user room)) not_found

-- ---- the members of a room

-- the member event gives this membership
abbrev pub gives : List ℕ → Event → Bool
gives membership e = is_text membership (membership_in e.content)

-- it is selected: by both it is enough that it gives the one or doesn't give the other
abbrev pub is_selected : Option (List ℕ) → Option (List ℕ) → Event → Bool
is_selected None None e = true
is_selected (Some membership) None e = gives membership e
is_selected None (Some not_membership) e = not (gives not_membership e)
is_selected (Some membership) (Some not_membership) e = gives membership e || not (gives not_membership e)

-- the members at a position
abbrev pub members_said : Lists → List ℕ → RoomId → Option (List ℕ) → Option (List ℕ) → ℕ → Said
members_said l user room membership not_membership place =
    said.Members (all_shown l user room (filter (is_selected membership not_membership) (members_at (events_in l room) place)))

unfoldable pub room_members_said : Lists → List ℕ → RoomId → Option (List ℕ) → Option (List ℕ) → Said
room_members_said l user room membership not_membership =
    cond (has_room l room) (read_at (members_said l user room membership not_membership) (place_of l user room)) not_found

-- ---- one event

-- the event of the room that stands at a position
abbrev pub event_at : Lists → RoomId → ℕ → Option Event
event_at l room at = first_of (filter (λ (e : Event). nat_eq e.id.at at) (events_in l room))

-- the event of the room that a text names, at the user's server
abbrev pub named_event : Lists → List ℕ → RoomId → List ℕ → Option Event
named_event l user room text = option_and_then (λ (id : EventId). event_at l room id.at) (event_id_at (2 ^ 64 - 1) (server_of user) text)

-- if the user sees it at the front
abbrev pub seen_event : Lists → List ℕ → RoomId → List ℕ → Option Event
seen_event l user room text = keep_if (is_visible (viewer_of user) (events_in l room) (front_of l)) (named_event l user room text)

abbrev pub event_said : Option Shown → Said
event_said None = not_found
event_said (Some s) = said.Event s

unfoldable pub one_event_said : Lists → List ℕ → RoomId → List ℕ → Said
one_event_said l user room text = event_said (option_map (shown_to l user room) (seen_event l user room text))
