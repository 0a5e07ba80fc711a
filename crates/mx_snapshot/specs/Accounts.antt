-- What is looked up among the entries of account data.
use Rattle.std.specs.Prelude.{◌≡◌, ℕ, Bool, false, List, Option, Some, None, filter, map}
use Rattle.std.specs.Str.{bytes_eq}
use Rattle.mx_ids.specs.declared.room_id.RoomId.{RoomId}
use Rattle.mx_window.specs.Lasts.{current}
use Rattle.mx_account.specs.Entries.{is_data_of, is_of, kind_of, position_of}
use Rattle.mx_account.specs.declared.entry.Entry.{Entry}
use Rattle.mx_account.specs.declared.entry.Entry.TheVariants as entry
use Rattle.mx_snapshot.specs.Lists.{key_at, kind_at, version_at}
use Rattle.mx_snapshot.specs.declared.account_index.AccountIndex.{AccountIndex}

-- an entry is data of this user, global or of any room
abbrev pub is_users : List ℕ → Entry → Bool
is_users user (entry.Data own_user room kind content at) = bytes_eq own_user user
is_users user (entry.Filter own_user id filter at) = false

-- the data of one user, global and of all rooms
abbrev pub of_user : List ℕ → List Entry → List Entry
of_user user entries = filter (is_users user) entries

-- an entry is a filter of this user
abbrev pub is_filter_of : List ℕ → Entry → Bool
is_filter_of user (entry.Data own_user room kind content at) = false
is_filter_of user (entry.Filter own_user id filter at) = bytes_eq own_user user

-- the filters of one user
abbrev pub filters_of : List ℕ → List Entry → List Entry
filters_of user entries = filter (is_filter_of user) entries

-- an entry is of the same type as a first one
abbrev pub same_type : Entry → Entry → Bool
same_type first e = bytes_eq (kind_of e) (kind_of first)

-- the data of a user and a room, or global ones, that none of the same type follow
abbrev pub standing_data : List ℕ → Option RoomId → List Entry → List Entry
standing_data user room entries = current same_type (filter (is_of user room) entries)

pub record IsIndexed (index : AccountIndex) (es : List Entry) : Type 0 where
  pub users : (user : List ℕ) → key_at index.users user ≡ map position_of (of_user user es)
  pub global : (user kind : List ℕ) → kind_at index.global user kind ≡ map position_of (filter (is_data_of user None kind) es)
  pub rooms : (room : RoomId) (user kind : List ℕ) → version_at index.rooms room user kind ≡ map position_of (filter (is_data_of user (Some room) kind) es)
  pub filters : (user : List ℕ) → key_at index.filters user ≡ map position_of (filters_of user es)
