use Rattle.std.proofs.Common.{◌≡◌, ◌++◌, drop, map}
use Rattle.mx_room_reads.specs.Reads.{joined_of}
use Rattle.mx_snapshot.specs.Looks.{own_now}
use Rattle.mx_room_reads.proofs.user_rooms.joined_among.Given as goal

abbrev pub invariant-rooms : goal.invariant-rooms
invariant-rooms l = l.rooms.items ++ joined_of (map own_now (drop l.entry-index l.own)) ≡ joined_of (map own_now l.own)
