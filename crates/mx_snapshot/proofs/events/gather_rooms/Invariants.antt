use Rattle.std.proofs.Common.{◌≡◌, ◌++◌, map}
use Rattle.mx_snapshot.specs.Looks.{own_looked, own_now}
use Rattle.mx_snapshot.proofs.events.gather_rooms.Given as goal

abbrev pub invariant-rooms : goal.invariant-rooms
invariant-rooms l = map own_now l.made.items ++ own_looked l.events.items l.entry-iterator ≡ own_looked l.events.items l.rooms.entries
