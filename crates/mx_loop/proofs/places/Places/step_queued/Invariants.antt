use Rattle.mx_poll.specs.OfEngine.Shown.{Ties}
use Rattle.mx_loop.proofs.places.Places.step_queued.Given as goal

abbrev pub invariant-turns : goal.invariant-turns
invariant-turns g l = Ties l.server.engine l.self.sessions.pass
