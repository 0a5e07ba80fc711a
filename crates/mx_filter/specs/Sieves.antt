-- What filters say of the events of a room, in mx_view's words, and which filters are the same.
use Rattle.std.specs.Prelude.{◌≡◌, ℕ, Bool, true, false, not, ◌&&◌, if◌then◌else◌, List, [], ◌∷◌, Option, Some, None, is_none}
use Rattle.std.specs.Str.{bytes_eq}
use Rattle.mx_ids.specs.declared.room_id.RoomId.{RoomId}
use Rattle.mx_view.specs.Rooms.{PicksByType, Sieve}
use Rattle.mx_filter.specs.Passes.{event_passes, room_passes, type_passes}
use Rattle.mx_filter.specs.declared.parts.EventFilter.{EventFilter}
use Rattle.mx_filter.specs.declared.parts.Selection.{Selection}
use Rattle.mx_filter.specs.declared.parts.TypeFilter.{TypeFilter}

-- a filter in a room. The room that is asked is judged, and not that of the event
abbrev pub sieve_of : List ℕ → Selection → RoomId → Sieve
sieve_of server s room = record {
  keeps = event_passes server s.state room;
  keeps_type = λ kind. type_passes s.state.kinds kind && room_passes server s.state.rooms s.state.not_rooms room;
  passes = event_passes server s.timeline room;
  lazy = s.lazy;
}

abbrev pub is_empty : List (List ℕ) → Bool
is_empty [] = true
is_empty (entry ∷ entries) = false

-- the state filter picks by type and room alone
abbrev pub folds : Selection → Bool
folds s = is_none s.state.senders && (is_empty s.state.not_senders && is_none s.state.contains_url)

abbrev pub same_texts : List (List ℕ) → List (List ℕ) → Bool
same_texts [] [] = true
same_texts [] (e ∷ es) = false
same_texts (d ∷ ds) [] = false
same_texts (d ∷ ds) (e ∷ es) = bytes_eq d e && same_texts ds es

abbrev pub same_list : Option (List (List ℕ)) → Option (List (List ℕ)) → Bool
same_list None None = true
same_list None (Some es) = false
same_list (Some ds) None = false
same_list (Some ds) (Some es) = same_texts ds es

abbrev pub same_truth : Bool → Bool → Bool
same_truth a b = if a then b else not b

abbrev pub same_choice : Option Bool → Option Bool → Bool
same_choice None None = true
same_choice None (Some b) = false
same_choice (Some a) None = false
same_choice (Some a) (Some b) = same_truth a b

abbrev pub same_types : TypeFilter → TypeFilter → Bool
same_types f g = same_list f.types g.types && same_texts f.not_types g.not_types

abbrev pub same_events : EventFilter → EventFilter → Bool
same_events f g =
    same_types f.kinds g.kinds && (same_list f.senders g.senders && (same_texts f.not_senders g.not_senders
    && (same_list f.rooms g.rooms && (same_texts f.not_rooms g.not_rooms && same_choice f.contains_url g.contains_url))))

-- the two select the same, by the same lists; limits don't tell filters apart
abbrev pub same_filter : Selection → Selection → Bool
same_filter f g =
    same_list f.rooms g.rooms && (same_texts f.not_rooms g.not_rooms && (same_truth f.include_leave g.include_leave
    && (same_events f.state g.state && (same_events f.timeline g.timeline && (same_types f.ephemeral g.ephemeral
    && (same_types f.room_account g.room_account && (same_types f.account g.account
    && (same_truth f.lazy g.lazy && same_truth f.redundant g.redundant))))))))

-- the filter of a page is the timeline filter of a sync's, with its lazy members
abbrev pub fits : Selection → Selection → Bool
fits f p = same_events f.timeline p.timeline && same_truth f.lazy p.lazy

abbrev pub SameFilters : Type 0
SameFilters = (f g : Selection) → same_filter f g ≡ true → f ≡ g

abbrev pub FoldsByType : Type 0
FoldsByType = (server : List ℕ) (f : Selection) → folds f ≡ true → (room : RoomId) → PicksByType (sieve_of server f room)

abbrev pub PagesFit : Type 0
PagesFit = (server : List ℕ) (f p : Selection) → fits f p ≡ true → (room : RoomId)
    → ((sieve_of server p room).passes ≡ (sieve_of server f room).passes) × ((sieve_of server p room).lazy ≡ (sieve_of server f room).lazy)
