use Rattle.std.proofs.Common.{◌<◌, length}
use Rattle.mx_poll.specs.OfEngine.Shown.{Ties}
use Rattle.mx_loop.proofs.places.Places.move_on.Given as goal

abbrev pub invariant-moves : goal.invariant-moves
invariant-moves g l = Ties l.server.engine l.self.sessions.pass × (l.which < length l.self.sessions.all.items)
