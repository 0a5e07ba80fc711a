-- Receipts (Client-Server API, Receipts), over the items of their stream.
use Rattle.std.specs.Prelude.{◌≡◌, ℕ, ◌&&◌, Bool, true, false, List, [], ◌∷◌, Option, filter, map, max, nat_eq}
use Rattle.std.specs.Str.{bytes_eq}
use Rattle.mx_ids.specs.declared.room_id.RoomId.{RoomId}
use Rattle.mx_window.specs.Lasts.{last_of}
use Rattle.mx_window.specs.Windows.{between, stand_from}
use Rattle.mx_receipt.specs.declared.receipt.Receipt.{Receipt}
use Rattle.mx_receipt.specs.declared.receipt.ReceiptKind.{ReceiptKind}
use Rattle.mx_receipt.specs.declared.receipt.ReceiptKind.TheVariants.{Read, Private}

-- a receipt's own position
abbrev pub position_of : Receipt → ℕ
position_of receipt = receipt.at

-- the same receipt at another position
abbrev pub placed_at : Receipt → ℕ → Receipt
placed_at receipt position = record receipt { at = position }

-- each receipt's own position is its place: the receipt at the index i stands at first + i
abbrev pub are_placed : ℕ → List Receipt → Bool
are_placed first receipts = stand_from position_of first receipts

-- each item of the stream stands at its own position, the first at 1
abbrev pub AreInPlace : List Receipt → Type 0
AreInPlace receipts = are_placed 1 receipts ≡ true

abbrev pub same_room : RoomId → RoomId → Bool
same_room r s = nat_eq r.writer s.writer && nat_eq r.at s.at

abbrev pub same_kind : ReceiptKind → ReceiptKind → Bool
same_kind Read Read = true
same_kind Read Private = false
same_kind Private Read = false
same_kind Private Private = true

-- a receipt is of this room and user
abbrev pub is_users : RoomId → List ℕ → Receipt → Bool
is_users room user receipt = same_room receipt.room room && bytes_eq receipt.user user

-- a receipt is of this room, user and kind
abbrev pub is_for : RoomId → List ℕ → ReceiptKind → Receipt → Bool
is_for room user kind receipt = is_users room user receipt && same_kind receipt.kind kind

-- the standing receipt of a room, user and kind at a position: the last one stored up to it
abbrev pub standing : RoomId → List ℕ → ReceiptKind → ℕ → List Receipt → Option Receipt
standing room user kind r receipts = last_of (is_for room user kind) (between position_of 0 r receipts)

abbrev pub greatest : List ℕ → ℕ
greatest [] = 0
greatest (n ∷ ns) = max n (greatest ns)

-- the greatest position of an event among these receipts that are of the room and user
abbrev pub furthest_in : RoomId → List ℕ → List Receipt → ℕ
furthest_in room user receipts = greatest (map (λ (receipt : Receipt). receipt.event.at) (filter (is_users room user) receipts))

-- the same among the receipts up to a position of their stream
abbrev pub furthest : RoomId → List ℕ → ℕ → List Receipt → ℕ
furthest room user r receipts = furthest_in room user (between position_of 0 r receipts)
