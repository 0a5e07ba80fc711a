-- What is looked up among the receipts of a stream.
use Rattle.std.specs.Prelude.{◌≡◌, ◌&&◌, ℕ, Bool, List, codes, filter, map}
use Rattle.std.specs.Str.{bytes_eq}
use Rattle.mx_ids.specs.declared.room_id.RoomId.{RoomId}
use Rattle.mx_event.specs.Lawful.{same_room}
use Rattle.mx_receipt.specs.Receipts.{is_for, position_of}
use Rattle.mx_receipt.specs.declared.receipt.Receipt.{Receipt}
use Rattle.mx_receipt.specs.declared.receipt.ReceiptKind.{ReceiptKind}
use Rattle.mx_receipt.specs.declared.receipt.ReceiptKind.TheVariants.{Read, Private}
use Rattle.mx_snapshot.specs.Lists.{room_at, version_at}
use Rattle.mx_snapshot.specs.declared.receipt_index.ReceiptIndex.{ReceiptIndex}

-- the receipts of one room
abbrev pub of_room : RoomId → List Receipt → List Receipt
of_room room receipts = filter (λ receipt. same_room receipt.room room) receipts

-- the receipts of one room, user and kind
abbrev pub of_user : RoomId → List ℕ → ReceiptKind → List Receipt → List Receipt
of_user room user kind receipts = filter (is_for room user kind) receipts

-- ---- what the code keeps of it

abbrev pub kind_name : ReceiptKind → List ℕ
kind_name Read = codes "m.read"
kind_name Private = codes "m.read.private"

-- a receipt is of this room, of the kind of this name, and of this user
abbrev pub is_named : RoomId → List ℕ → List ℕ → Receipt → Bool
is_named room name user receipt = same_room receipt.room room && (bytes_eq (kind_name receipt.kind) name && bytes_eq receipt.user user)

pub record IsIndexed (index : ReceiptIndex) (receipts : List Receipt) : Type 0 where
  pub rooms : (room : RoomId) → room_at index.rooms room ≡ map position_of (of_room room receipts)
  pub own : (room : RoomId) (name user : List ℕ) → version_at index.own room name user ≡ map position_of (filter (is_named room name user) receipts)
