use Rattle.std.proofs.Common.{◌≡◌, [], drop, fold}
use Rattle.mx_sync_json.specs.Keyed.{members_in}
use Rattle.mx_sync_json.specs.Rooms.{with_joined}
use Rattle.mx_sync_json.proofs.rooms.joined_rooms.Given as goal

abbrev pub invariant-rooms : goal.invariant-rooms
invariant-rooms l =
    fold (with_joined l.to.server.now l.to.device l.to.front) (members_in l.listed.entries) (drop l.room-index l.room-items) ≡ fold
    (with_joined l.to.server.now l.to.device l.to.front) [] l.room-items
