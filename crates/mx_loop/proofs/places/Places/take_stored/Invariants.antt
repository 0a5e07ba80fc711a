use Rattle.mx_poll.specs.OfEngine.Shown.{Ties}
use Rattle.mx_loop.proofs.places.Places.take_stored.Given as goal

abbrev pub invariant-found : goal.invariant-found
invariant-found g l = Ties l.server.engine l.self.sessions.pass
