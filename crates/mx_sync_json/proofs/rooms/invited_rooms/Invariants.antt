use Rattle.std.proofs.Common.{◌≡◌, [], drop, fold}
use Rattle.mx_sync_json.specs.Keyed.{members_in}
use Rattle.mx_sync_json.specs.Rooms.{with_invited}
use Rattle.mx_sync_json.proofs.rooms.invited_rooms.Given as goal

abbrev pub invariant-rooms : goal.invariant-rooms
invariant-rooms l = fold (with_invited l.server) (members_in l.listed.entries) (drop l.room-index l.room-items) ≡ fold (with_invited l.server) [] l.room-items
