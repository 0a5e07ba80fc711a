-- The account data that entries set.
use Rattle.std.specs.Prelude.{ℕ, List, [], Option, fold, filter}
use Rattle.std.specs.Ordering.{nat_cmp}
use Rattle.std.specs.Cmp.Lexicographic.{slice_cmp}
use Rattle.std.specs.BTreeMap.{insert_entry}
use Rattle.mx_ids.specs.declared.room_id.RoomId.{RoomId}
use Rattle.mx_json.specs.declared.value.Json.{Json}
use Rattle.mx_account.specs.declared.entry.Entry.{Entry}
use Rattle.mx_account.specs.declared.entry.Entry.TheVariants as entry
use Rattle.mx_account.specs.Entries.{is_of}

-- the data with the content of an entry under its type
abbrev pub set_entry : List (List ℕ × Json) → Entry → List (List ℕ × Json)
set_entry known (entry.Data user room kind content at) = insert_entry (slice_cmp nat_cmp) known kind content
set_entry known (entry.Filter user id filter at) = known

-- the data of a user and a room in these entries: for each type the last content, in byte order of types
abbrev pub data_of : List ℕ → Option RoomId → List Entry → List (List ℕ × Json)
data_of user room entries = fold set_entry [] (filter (is_of user room) entries)
