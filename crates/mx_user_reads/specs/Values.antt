-- A user's account data (Client-Server API, Client Config), and the tags of a room (Client-Server API, Room Tagging).
use Rattle.std.specs.Prelude.{ℕ, Bool, true, false, List, length, Option, Some, None, codes, if◌then◌else◌}
use Rattle.std.specs.Option.{option_or}
use Rattle.std.specs.Str.{bytes_eq}
use Rattle.mx_account.specs.Tags.{tags_of}
use Rattle.mx_account.specs.Values.{value_at}
use Rattle.mx_ask.specs.declared.said.Said.{Said}
use Rattle.mx_ask.specs.declared.said.Said.TheVariants as said
use Rattle.mx_fold.specs.Lists.{Lists}
use Rattle.mx_ids.specs.declared.room_id.RoomId.{RoomId}
use Rattle.mx_json.specs.declared.value.Json.{Json}
use Rattle.mx_json.specs.declared.value.Json.TheVariants as json
use Rattle.mx_room_reads.specs.Places.{has_room}
use Rattle.mx_rules.specs.Defaults.{default_rules}
use Rattle.mx_rules.specs.Writing.{content_of, single}
use Rattle.mx_user_reads.specs.Told.{not_there, told}

-- the room is there, where one is named
abbrev pub is_there : Lists → Option RoomId → Bool
is_there l None = true
is_there l (Some room) = has_room l room

-- the content that a user last stored under a type, of a room or global
abbrev pub stored_value : Lists → List ℕ → Option RoomId → List ℕ → Option Json
stored_value l user room kind = value_at user room kind (length l.accounts) l.accounts

-- global data that are there where nothing is stored: the push rules
abbrev pub has_default : Option RoomId → List ℕ → Bool
has_default None kind = bytes_eq kind (codes "m.push_rules")
has_default (Some room) kind = false

-- what a user has where nothing is stored
abbrev pub default_value : List ℕ → Option RoomId → List ℕ → Option Json
default_value user room kind = if has_default room kind then Some (content_of (default_rules user)) else None

unfoldable pub account_value : Lists → List ℕ → Option RoomId → List ℕ → Said
account_value l user room kind =
    if is_there l room then told (option_or (stored_value l user room kind) (default_value user room kind)) else not_there

-- the tags of a content of `m.tag` in an object of their own
abbrev pub tags_json : Option Json → Json
tags_json content = single (codes "tags") (json.Object (tags_of content))

unfoldable pub room_tags : Lists → List ℕ → RoomId → Said
room_tags l user room = if has_room l room then said.Content (tags_json (stored_value l user (Some room) (codes "m.tag"))) else not_there
