-- The body of POST /createRoom (Client-Server API): its form, and what it lists.
use Rattle.std.specs.Prelude.{ℕ, List, [], Bool, true, false, ◌&&◌, Option, Some, None, is_some, option_and_then, unwrap_or, codes, if◌then◌else◌}
use Rattle.std.specs.List.{list_all, filter_map}
use Rattle.mx_json.specs.Fields.{field, is_object, list_of, text_at, text_of}
use Rattle.mx_json.specs.declared.value.Json.{Json}
use Rattle.mx_create.specs.declared.body.BodyField.{BodyField}
use Rattle.mx_create.specs.declared.body.BodyField.TheVariants as fields

abbrev pub is_text_value : Json → Bool
is_text_value j = is_some (text_of j)

abbrev pub is_none_or_text : Option Json → Bool
is_none_or_text None = true
is_none_or_text (Some j) = is_text_value j

abbrev pub is_some_object : Option Json → Bool
is_some_object None = false
is_some_object (Some j) = is_object j

abbrev pub is_object_at : List ℕ → Json → Bool
is_object_at key j = is_some_object (field key j)

-- an event type, an object as content, and a state key, which is a text where it is there
abbrev pub is_state_entry : Json → Bool
is_state_entry j =
    is_object j && (is_some (text_at (codes "type") j) && (is_object_at (codes "content") j && is_none_or_text (field (codes "state_key") j)))

abbrev pub is_list_in : (Json → Bool) → Option (List Json) → Bool
is_list_in passes None = false
is_list_in passes (Some js) = list_all passes js

abbrev pub is_list_of : (Json → Bool) → Json → Bool
is_list_of passes j = is_list_in passes (list_of j)

abbrev pub is_none_or_list_of : (Json → Bool) → Option Json → Bool
is_none_or_list_of passes None = true
is_none_or_list_of passes (Some j) = is_list_of passes j

-- an object; `initial_state` lists state entries where it is there, and `invite` texts
abbrev pub is_create_body : Json → Bool
is_create_body ask =
    is_object ask
    && (is_none_or_list_of is_state_entry (field (codes "initial_state") ask)
    && is_none_or_list_of is_text_value (field (codes "invite") ask))

-- the first part that doesn't have its form
abbrev pub wrong_field : Json → Option BodyField
wrong_field ask =
    if is_object ask then (if is_none_or_list_of is_state_entry (field (codes "initial_state") ask)
    then (if is_none_or_list_of is_text_value (field (codes "invite") ask) then None else Some fields.Invite)
    else Some fields.InitialState) else Some fields.Body

-- the items of the list at a key; none where there is no list
abbrev pub listed : List ℕ → Json → List Json
listed key ask = unwrap_or (option_and_then list_of (field key ask)) []

-- the users that are invited
abbrev pub invited : Json → List (List ℕ)
invited ask = filter_map text_of (listed (codes "invite") ask)
