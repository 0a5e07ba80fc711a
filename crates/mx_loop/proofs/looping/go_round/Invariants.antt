use Rattle.std.proofs.Common.{◌≡◌, ◌≤◌}
use Rattle.mx_loop.specs.Looped.{HasNone}
use Rattle.mx_loop.specs.declared.looping.Coming.TheVariants as coming
use Rattle.mx_poll.specs.OfEngine.Shown.{Ties}
use Rattle.mx_loop.proofs.looping.go_round.Given as goal

-- the count of faults hasn't fallen
abbrev pub invariant-rounds : goal.invariant-rounds
invariant-rounds g l =
    (goal.iterator-rounds g).can_next l.iterator' × (goal.iterator-rounds g).is_finite l.iterator'
    × Ties l.server.engine l.places.sessions.pass × (g.Q.Ports.faults l.fn.ports ≤ g.Q.Ports.faults l.ports)
    × (l.coming ≡ coming.Never → HasNone (g.Q.Ports.left l.ports))
