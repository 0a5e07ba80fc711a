use Rattle.std.proofs.Common.{◌≡◌, ◌≤◌}
use Rattle.mx_loop.proofs.looping.accept_all.Given as goal

abbrev pub invariant-accepts : goal.invariant-accepts
invariant-accepts g l = (l.places.sessions.pass ≡ l.initial.places.sessions.pass) × (g.Q.Ports.faults l.initial.ports ≤ g.Q.Ports.faults l.ports)
