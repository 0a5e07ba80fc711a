use Rattle.std.proofs.Common.{◌≡◌, [], drop, fold}
use Rattle.mx_sync_json.specs.Keyed.{members_in}
use Rattle.mx_sync_json.specs.Rooms.{with_left}
use Rattle.mx_sync_json.proofs.rooms.left_rooms.Given as goal

abbrev pub invariant-rooms : goal.invariant-rooms
invariant-rooms l =
    fold (with_left l.to.server.now l.to.device l.to.front) (members_in l.listed.entries) (drop l.room-index l.room-items) ≡ fold
    (with_left l.to.server.now l.to.device l.to.front) [] l.room-items
