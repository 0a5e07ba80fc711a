use Rattle.std.proofs.Common.{◌<◌, ◌≤◌, length}
use Rattle.mx_serve.specs.OfEngine.Shown.{Ties}
use Rattle.tests_loop.proofs.turns.step_on.Given as goal

abbrev pub invariant-steps : goal.invariant-steps
invariant-steps g l = Ties l.server.engine l.sessions.pass × (l.which < length l.sessions.all.items) × (length l.initial.sessions.all.items ≤ length l.sessions.all.items)
