-- The status and the body of what is answered.
use Rattle.std.specs.Prelude.{ℕ, List, [], ◌∷◌, true, map, codes, decimal}
use Rattle.mx_ask.specs.declared.refusal.Refusal.{Refusal}
use Rattle.mx_ask.specs.declared.said.Said.{Said}
use Rattle.mx_ask.specs.declared.said.Said.TheVariants as said
use Rattle.mx_event.specs.Forms.{client_form, member}
use Rattle.mx_event.specs.declared.event.Shown.{Shown}
use Rattle.mx_ids.specs.Ids.{event_id_text, room_id_text}
use Rattle.mx_ids.specs.declared.event_id.EventId.{EventId}
use Rattle.mx_ids.specs.declared.room_id.RoomId.{RoomId}
use Rattle.mx_json.specs.Texts.{json_text}
use Rattle.mx_json.specs.declared.value.Json.{Json}
use Rattle.mx_json.specs.declared.value.Json.TheVariants as json
use Rattle.mx_pager.specs.Forms.{page_form}
use Rattle.mx_sync_json.specs.Replies.{reply_form}
use Rattle.mx_api.specs.Errors.{error_json}
use Rattle.mx_render.specs.Errors.{code_of, status_of, text_of}

abbrev pub said_status : Said → ℕ
said_status (said.Refused r) = status_of r
said_status (said.Named user device) = 200
said_status said.Done = 200
said_status (said.Sent event) = 200
said_status (said.Room room) = 200
said_status (said.Rooms rooms) = 200
said_status (said.Content content) = 200
said_status (said.State events) = 200
said_status (said.Members events) = 200
said_status (said.Event event) = 200
said_status (said.Paged page) = 200
said_status (said.Synced reply) = 200
said_status (said.Filter id) = 200
said_status (said.NoMemory _) = 503

-- an object of one member
abbrev pub single : List ℕ → Json → Json
single key value = json.Object (member key value ∷ [])

-- who asks: the user and the name of the device
abbrev pub named_json : List ℕ → List ℕ → Json
named_json user device = json.Object (member (codes "device_id") (json.Text device) ∷ member (codes "user_id") (json.Text user) ∷ [])

abbrev pub sent_json : List ℕ → EventId → Json
sent_json server event = single (codes "event_id") (json.Text (event_id_text server event))

-- the id of a filter
abbrev pub filter_json : ℕ → Json
filter_json id = single (codes "filter_id") (json.Text (decimal id))

-- the error of a refusal (Client-Server API, Standard error response)
abbrev pub refused_json : Refusal → Json
refused_json r = error_json (code_of r) (text_of r)

abbrev pub room_json : List ℕ → RoomId → Json
room_json server room = json.Text (room_id_text server room)

-- rooms, by the texts of their ids
abbrev pub rooms_json : List ℕ → List RoomId → Json
rooms_json server rooms = json.List (map (room_json server) rooms)

-- events as a device sees them, each with its room
abbrev pub events_json : List ℕ → ℕ → List Shown → Json
events_json server device events = json.List (map (client_form server true device) events)

-- the body for want of memory, whose text is fixed
abbrev pub no_memory_text : List ℕ
no_memory_text = codes "{\"errcode\":\"ORG_MXSYNC_NO_MEMORY\",\"error\":\"no memory\"}"

-- the text of the body, at the server of a name, for a device
abbrev pub said_text : List ℕ → ℕ → Said → List ℕ
said_text server device (said.Refused r) = json_text (refused_json r)
said_text server device (said.Named user name) = json_text (named_json user name)
said_text server device said.Done = json_text (json.Object [])
said_text server device (said.Sent event) = json_text (sent_json server event)
said_text server device (said.Room room) = json_text (single (codes "room_id") (room_json server room))
said_text server device (said.Rooms rooms) = json_text (single (codes "joined_rooms") (rooms_json server rooms))
said_text server device (said.Content content) = json_text content
said_text server device (said.State events) = json_text (events_json server device events)
said_text server device (said.Members events) = json_text (single (codes "chunk") (events_json server device events))
said_text server device (said.Event event) = json_text (client_form server true device event)
said_text server device (said.Paged page) = json_text (page_form server device page)
said_text server device (said.Synced reply) = json_text (reply_form server device reply)
said_text server device (said.Filter id) = json_text (filter_json id)
said_text server device (said.NoMemory _) = no_memory_text
