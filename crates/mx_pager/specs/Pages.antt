-- *Page*: what is sent of a room's events between two bounds.
use Rattle.std.specs.Prelude.{ℕ, Bool, cond, List, [], ◌∷◌, length, map, nat_lt, take, reverse, Some, None}
use Rattle.std.specs.List.{list_any}
use Rattle.mx_ids.specs.User.{server_of}
use Rattle.mx_ids.specs.declared.page_token.PageToken.{PageToken}
use Rattle.mx_ids.specs.declared.room_id.RoomId.{RoomId}
use Rattle.mx_window.specs.Windows.{before_first}
use Rattle.mx_event.specs.Lawful.{of_room}
use Rattle.mx_event.specs.Shown.{position_of}
use Rattle.mx_event.specs.Valid.{IsValid}
use Rattle.mx_event.specs.declared.event.Event.{Event}
use Rattle.mx_event.specs.declared.event.Shown.{Shown}
use Rattle.mx_folding.specs.Parts.{members_of}
use Rattle.mx_folding.specs.Rooms.{Room}
use Rattle.mx_folding.specs.Sections.{chunk, sendable}
use Rattle.mx_folding.specs.Visible.{is_visible}
use Rattle.mx_filter.specs.Sieves.{sieve_of}
use Rattle.mx_view.specs.Readings.{viewer_of}
use Rattle.mx_view.specs.Rooms.{Key, room_of}
use Rattle.mx_view.specs.Shows.{shown_for}
use Rattle.mx_pager.specs.Asks.{cut_of, high_of, low_of, start_of}
use Rattle.mx_pager.specs.declared.asked.PageAsk.{PageAsk}
use Rattle.mx_pager.specs.declared.sent.Page.{Page}

-- each room's list is valid
abbrev pub AreValid : List Event → Type 0
AreValid events = (room : RoomId) → IsValid (of_room room events)

-- an event of the room is visible at a front
abbrev pub sees : List ℕ → List Event → ℕ → Bool
sees user es front = list_any (is_visible (viewer_of user) es front) es

-- the position of the last event, or a lower bound
abbrev pub last_place : ℕ → List Event → ℕ
last_place low [] = low
last_place low (e ∷ es) = last_place e.id.at es

-- of the events between two bounds that are visible and pass the filter the last for a backward page, the first for a
-- forward one, in order of position
abbrev pub chosen_between : Room Event Key → List Event → ℕ → PageAsk → ℕ → ℕ → List Event
chosen_between r es front ask low high = cond ask.backward (chunk r es ask.limit front low high) (take ask.limit (sendable r es front low high))

-- one of them is left out
abbrev pub has_more_between : Room Event Key → List Event → ℕ → PageAsk → ℕ → ℕ → Bool
has_more_between r es front ask low high = nat_lt (length (chosen_between r es front ask low high)) (length (sendable r es front low high))

abbrev pub chosen : Room Event Key → List Event → ℕ → PageAsk → List Event
chosen r es front ask = chosen_between r es front ask (low_of front ask) (high_of front ask)

abbrev pub has_more : Room Event Key → List Event → ℕ → PageAsk → Bool
has_more r es front ask = has_more_between r es front ask (low_of front ask) (high_of front ask)

-- where the next page begins: before the first of these events, in the list as it was read at `from`; or after the last
abbrev pub next_place : ℕ → PageAsk → List Event → PageToken
next_place front ask es = cond ask.backward
    (record { at = before_first position_of (high_of front ask) es; e = cut_of (start_of front ask) })
    (record { at = last_place (low_of front ask) es; e = front })

-- the position of the state in which the members stand: where the list was cut for a backward page, else the front
abbrev pub members_at : ℕ → PageAsk → ℕ
members_at front ask = cond ask.backward (cut_of (start_of front ask)) front

abbrev pub shown_at : List ℕ → List Event → ℕ → List Event → List Shown
shown_at user es front sent = map (shown_for user es front) sent

abbrev pub page_in : Room Event Key → List ℕ → List Event → ℕ → PageAsk → Page
page_in r user es front ask = record {
  chunk = shown_at user es front (cond ask.backward (reverse (chosen r es front ask)) (chosen r es front ask));
  start = start_of front ask;
  end = cond (has_more r es front ask) (Some (next_place front ask (chosen r es front ask))) None;
  members = cond r.lazy (Some (shown_at user es front (members_of r es (members_at front ask) (chosen r es front ask)))) None;
}

-- over the events of a stream up to its front
abbrev pub page_of : List Event → List ℕ → PageAsk → Page
page_of events user ask =
    page_in (room_of (sieve_of (server_of user) ask.filter.now.selection ask.room) user (of_room ask.room events)) user (of_room ask.room events) (length events) ask
