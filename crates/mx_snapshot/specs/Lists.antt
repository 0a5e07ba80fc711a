-- Maps of lists of positions, read through functions for which a missing key has the empty list.
use Rattle.std.specs.Prelude.{ℕ, Bool, true, List, [], ◌∷◌, Option, Some, None, String, if◌then◌else◌}
use Rattle.std.specs.BTreeMap as tree
use Rattle.std.specs.BTreeMap.{BTreeMap, get_by_text}
use Rattle.std.specs.Global.{Vec}
use Rattle.std.specs.declared.alloc.Global.{Global}
use Rattle.std.specs.declared.cmp.Ordering.{Ordering}
use Rattle.std.specs.Ordering.{nat_cmp, ordering_then}
use Rattle.mx_ids.specs.declared.room_id.RoomId.{RoomId}

abbrev pub itself : ℕ → ℕ
itself n = n

abbrev pub always : ℕ → Bool
always n = true

-- by writer, then by position
abbrev pub room_cmp : RoomId → RoomId → Ordering
room_cmp r s = ordering_then (nat_cmp r.writer s.writer) (nat_cmp r.at s.at)

abbrev pub one : Bool → ℕ → List ℕ
one there p = if there then p ∷ [] else []

abbrev pub listed : Option (Vec ℕ) → List ℕ
listed None = []
listed (Some v) = v.items

abbrev pub Rooms : Type 0
Rooms = BTreeMap RoomId (Vec ℕ)

abbrev pub room_at : Rooms → RoomId → List ℕ
room_at m room = listed (tree.get room_cmp m room)

abbrev pub Keys : Type 0
Keys = BTreeMap (String Global) (Vec ℕ)

abbrev pub key_at : Keys → List ℕ → List ℕ
key_at m key = listed (get_by_text m key)

abbrev pub key_in : Option Keys → List ℕ → List ℕ
key_in None key = []
key_in (Some m) key = key_at m key

abbrev pub Kinds : Type 0
Kinds = BTreeMap (String Global) Keys

abbrev pub kind_at : Kinds → List ℕ → List ℕ → List ℕ
kind_at m kind key = key_in (get_by_text m kind) key

abbrev pub kind_in : Option Kinds → List ℕ → List ℕ → List ℕ
kind_in None kind key = []
kind_in (Some m) kind key = kind_at m kind key

-- the keys of a type
abbrev pub type_in : Option Kinds → List ℕ → Option Keys
type_in None kind = None
type_in (Some m) kind = get_by_text m kind

abbrev pub version_at : BTreeMap RoomId Kinds → RoomId → List ℕ → List ℕ → List ℕ
version_at m room kind key = kind_in (tree.get room_cmp m room) kind key

abbrev pub entries_in : Option (BTreeMap RoomId ℕ) → List (RoomId × ℕ)
entries_in None = []
entries_in (Some m) = m.entries

abbrev pub own_at : BTreeMap (String Global) (BTreeMap RoomId ℕ) → List ℕ → List (RoomId × ℕ)
own_at m user = entries_in (get_by_text m user)
