-- *RoomState*: the state of a room after its events, which are given in the order of their positions.
use Rattle.std.specs.Prelude.{ℕ, List, [], Bool, Option, option_map, option_and_then, codes}
use Rattle.mx_json.specs.Fields.{text_at}
use Rattle.mx_json.specs.declared.value.Json.{Json}
use Rattle.mx_window.specs.Lasts.{last_of}
use Rattle.mx_event.specs.Kinds.{create_type, member_type, join_rules_type, has_key, is_text}
use Rattle.mx_event.specs.declared.event.Event.{Event}

-- the state event that stands under a type and state key: the last one with them
abbrev pub standing : List ℕ → List ℕ → List Event → Option Event
standing kind key es = last_of (has_key kind key) es

abbrev pub content_of : Event → Json
content_of e = e.content

abbrev pub standing_content : List ℕ → List ℕ → List Event → Option Json
standing_content kind key es = option_map content_of (standing kind key es)

-- the membership that a member event gives
abbrev pub membership_in : Json → Option (List ℕ)
membership_in content = text_at (codes "membership") content

-- the membership of a user
abbrev pub membership_of : List ℕ → List Event → Option (List ℕ)
membership_of user es = option_and_then membership_in (standing_content member_type user es)

abbrev pub is_joined : List ℕ → List Event → Bool
is_joined user es = is_text (codes "join") (membership_of user es)

abbrev pub is_invited : List ℕ → List Event → Bool
is_invited user es = is_text (codes "invite") (membership_of user es)

abbrev pub is_banned : List ℕ → List Event → Bool
is_banned user es = is_text (codes "ban") (membership_of user es)

abbrev pub sender_of : Event → List ℕ
sender_of e = e.sender

-- who created the room
abbrev pub creator : List Event → Option (List ℕ)
creator es = option_map sender_of (standing create_type [] es)

abbrev pub join_rule : List Event → Option (List ℕ)
join_rule es = option_and_then (text_at (codes "join_rule")) (standing_content join_rules_type [] es)
