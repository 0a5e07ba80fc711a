use Rattle.std.proofs.Common.{◌≡◌, ◌≤◌}
use Rattle.mx_pool.specs.Connections.{change}
use Rattle.mx_pool.specs.Serving.{AreTaken, IsTelling, after_calls}
use Rattle.mx_pool.proofs.serving.serve_all.Given as goal

-- the counts of faults haven't fallen; as many jobs were started, of as many pairs, as the book counts
abbrev pub invariant-connections : goal.invariant-connections
invariant-connections g l =
    (goal.iterator-connections g).can_next l.iterator' × (goal.iterator-connections g).is_finite l.iterator'
    × (g.L.Listener.faults l.fn.listener ≤ g.L.Listener.faults l.listener) × (l.fn.spawner.plan.faults ≤ l.spawner.plan.faults)
    × (l.spawner.plan.next ≡ after_calls l.book.total l.fn.spawner.plan.next)
    × (IsTelling g.L.Listener.left → AreTaken (change (g.L.Listener.left l.fn.listener) (g.L.Listener.left l.listener)) l.book.total)
