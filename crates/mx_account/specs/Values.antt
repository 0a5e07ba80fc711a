-- The account data that stand at a position.
use Rattle.std.specs.Prelude.{◌≡◌, ℕ, true, List, Option, option_map}
use Rattle.mx_ids.specs.declared.room_id.RoomId.{RoomId}
use Rattle.mx_json.specs.declared.value.Json.{Json}
use Rattle.mx_window.specs.Windows.{between}
use Rattle.mx_window.specs.Lasts.{last_of}
use Rattle.mx_account.specs.declared.entry.Entry.{Entry}
use Rattle.mx_account.specs.Entries.{are_placed, content_of, is_data_of, position_of}

-- each item of the stream stands at its own position, the first at 1
abbrev pub AreInPlace : List Entry → Type 0
AreInPlace entries = are_placed 1 entries ≡ true

-- the content of the last entry of this user, room and type up to a position, if there is one
abbrev pub value_at : List ℕ → Option RoomId → List ℕ → ℕ → List Entry → Option Json
value_at user room kind a entries = option_map content_of (last_of (is_data_of user room kind) (between position_of 0 a entries))
