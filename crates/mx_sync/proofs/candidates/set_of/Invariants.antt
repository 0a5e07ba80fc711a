use Rattle.std.proofs.Common.{◌≡◌, ◌||◌, drop, map}
use Rattle.std.specs.List.{list_any}
use Rattle.mx_ids.specs.declared.room_id.RoomId.{RoomId}
use Rattle.mx_snapshot.specs.Looks.{own_now}
use Rattle.mx_sync.specs.Quiet.{has_room}
use Rattle.mx_sync.proofs.Listed.{is_at}
use Rattle.mx_sync.proofs.candidates.set_of.Given as goal

abbrev pub invariant-rooms : goal.invariant-rooms
invariant-rooms l = (r : RoomId) → (has_room l.rooms r || list_any (is_at r) (map own_now (drop l.room-index l.own))) ≡ list_any (is_at r) (map own_now l.own)
