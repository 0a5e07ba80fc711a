use Rattle.std.proofs.Common.{◌≡◌}
use Rattle.mx_loop.proofs.places.Places.take_ready.Given as goal

abbrev pub invariant-told : goal.invariant-told
invariant-told g l =
    (l.self.sessions.pass ≡ l.initial.self.sessions.pass) × (g.Q.Ports.left l.ports ≡ g.Q.Ports.left l.initial.ports) × (g.Q.Ports.faults l.ports ≡ g.Q.Ports.faults l.initial.ports)
