-- The known fields of a filter, and the first that is of the wrong type (Client-Server API, Filtering).
use Rattle.std.specs.Prelude.{ℕ, ℤ, pos, negsuc, Bool, true, false, ◌||◌, List, [], ◌∷◌, ◌++◌, Option, Some, None, is_some, option_and_then, if◌then◌else◌, codes}
use Rattle.std.specs.List.{list_all}
use Rattle.std.specs.Option.{option_or, option_map_or}
use Rattle.mx_view.specs.OfEvent.Kinds.{is_text}
use Rattle.mx_json.specs.Fields.{field, bool_of, int_of, is_object, list_of, text_of}
use Rattle.mx_json.specs.declared.value.Json.{Json}
use Rattle.mx_filter.specs.declared.field.Field.{Field}
use Rattle.mx_filter.specs.declared.field.Field.TheVariants as fields
use Rattle.mx_filter.specs.declared.field.Form.{Form}
use Rattle.mx_filter.specs.declared.field.Form.TheVariants as forms
use Rattle.mx_filter.specs.declared.field.Place.{Place}
use Rattle.mx_filter.specs.declared.field.Place.TheVariants as places

abbrev pub key_of : Field → List ℕ
key_of fields.ContainsUrl = codes "contains_url"
key_of fields.EventFields = codes "event_fields"
key_of fields.EventFormat = codes "event_format"
key_of fields.IncludeLeave = codes "include_leave"
key_of fields.IncludeRedundantMembers = codes "include_redundant_members"
key_of fields.LazyLoadMembers = codes "lazy_load_members"
key_of fields.Limit = codes "limit"
key_of fields.NotRooms = codes "not_rooms"
key_of fields.NotSenders = codes "not_senders"
key_of fields.NotTypes = codes "not_types"
key_of fields.Rooms = codes "rooms"
key_of fields.Senders = codes "senders"
key_of fields.Types = codes "types"

abbrev pub form_of : Field → Form
form_of fields.ContainsUrl = forms.Truth
form_of fields.EventFields = forms.Texts
form_of fields.EventFormat = forms.EventFormat
form_of fields.IncludeLeave = forms.Truth
form_of fields.IncludeRedundantMembers = forms.Truth
form_of fields.LazyLoadMembers = forms.Truth
form_of fields.Limit = forms.Count
form_of fields.NotRooms = forms.Texts
form_of fields.NotSenders = forms.Texts
form_of fields.NotTypes = forms.Texts
form_of fields.Rooms = forms.Texts
form_of fields.Senders = forms.Texts
form_of fields.Types = forms.Texts

-- the keys that lead to a place
abbrev pub path_of : Place → List ℕ
path_of places.Top = codes "body"
path_of places.AccountData = codes "account_data"
path_of places.Room = codes "room"
path_of places.RoomAccountData = codes "room.account_data"
path_of places.RoomEphemeral = codes "room.ephemeral"
path_of places.RoomState = codes "room.state"
path_of places.RoomTimeline = codes "room.timeline"

-- what stands before the key of a field there
abbrev pub prefix_of : Place → List ℕ
prefix_of places.Top = []
prefix_of places.AccountData = codes "account_data."
prefix_of places.Room = codes "room."
prefix_of places.RoomAccountData = codes "room.account_data."
prefix_of places.RoomEphemeral = codes "room.ephemeral."
prefix_of places.RoomState = codes "room.state."
prefix_of places.RoomTimeline = codes "room.timeline."

-- the fields of a filter of account data, and of a filter of a room's events, in byte order
abbrev pub data_fields : List Field
data_fields = fields.Limit ∷ fields.NotSenders ∷ fields.NotTypes ∷ fields.Senders ∷ fields.Types ∷ []

abbrev pub event_fields : List Field
event_fields =
    fields.ContainsUrl ∷ fields.IncludeRedundantMembers ∷ fields.LazyLoadMembers ∷ fields.Limit ∷ fields.NotRooms
    ∷ fields.NotSenders ∷ fields.NotTypes ∷ fields.Rooms ∷ fields.Senders ∷ fields.Types ∷ []

-- the fields of the filter itself, and of its part `room`
abbrev pub top_fields : List Field
top_fields = fields.EventFields ∷ fields.EventFormat ∷ []

abbrev pub room_fields : List Field
room_fields = fields.IncludeLeave ∷ fields.NotRooms ∷ fields.Rooms ∷ []

abbrev pub is_text_value : Json → Bool
is_text_value j = is_some (text_of j)

abbrev pub are_texts : Option (List Json) → Bool
are_texts None = false
are_texts (Some js) = list_all is_text_value js

abbrev pub is_count : Option ℤ → Bool
is_count None = false
is_count (Some (pos n)) = true
is_count (Some (negsuc n)) = false

abbrev pub is_format : Option (List ℕ) → Bool
is_format text = is_text (codes "client") text || is_text (codes "federation") text

abbrev pub has_form : Form → Json → Bool
has_form forms.Texts j = are_texts (list_of j)
has_form forms.Count j = is_count (int_of j)
has_form forms.Truth j = is_some (bool_of j)
has_form forms.EventFormat j = is_format (text_of j)

-- a field that isn't there is of no wrong type
abbrev pub is_right : Field → Json → Bool
is_right f j = option_map_or (has_form (form_of f)) (field (key_of f) j) true

-- the first field of a list that is of the wrong type
abbrev pub wrong_field : Place → List Field → Json → Option (List ℕ)
wrong_field place [] j = None
wrong_field place (f ∷ fs) j = if is_right f j then wrong_field place fs j else Some (prefix_of place ++ key_of f)

-- the first of a part that may be absent, or the part itself where it is no object
abbrev pub wrong_part : Place → List Field → Option Json → Option (List ℕ)
wrong_part place fs None = None
wrong_part place fs (Some j) = if is_object j then wrong_field place fs j else Some (path_of place)

abbrev pub wrong_members : Json → Option (List ℕ)
wrong_members j =
    option_or (wrong_part places.RoomAccountData event_fields (field (codes "account_data") j))
    (option_or (wrong_part places.RoomEphemeral event_fields (field (codes "ephemeral") j))
    (option_or (wrong_field places.Room room_fields j)
    (option_or (wrong_part places.RoomState event_fields (field (codes "state") j))
    (wrong_part places.RoomTimeline event_fields (field (codes "timeline") j)))))

abbrev pub wrong_room : Option Json → Option (List ℕ)
wrong_room None = None
wrong_room (Some j) = if is_object j then wrong_members j else Some (path_of places.Room)

abbrev pub wrong_in_object : Json → Option (List ℕ)
wrong_in_object j =
    option_or (wrong_part places.AccountData data_fields (field (codes "account_data") j))
    (option_or (wrong_field places.Top top_fields j)
    (wrong_room (field (codes "room") j)))

-- the path of the first field of a filter that is of the wrong type, in byte order of paths
abbrev pub wrong_filter : Json → Option (List ℕ)
wrong_filter j = if is_object j then wrong_in_object j else Some (path_of places.Top)

-- the same of the filter of a page, which is one filter of a room's events
abbrev pub wrong_page_filter : Json → Option (List ℕ)
wrong_page_filter j = wrong_part places.Top event_fields (Some j)

abbrev pub is_federation : Json → Bool
is_federation j = is_text (codes "federation") (option_and_then text_of (field (codes "event_format") j))
