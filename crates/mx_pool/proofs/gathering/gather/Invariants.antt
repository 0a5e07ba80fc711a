use Rattle.std.proofs.Common.{◌≡◌, ◌+◌, ◌≤◌}
use Rattle.std.specs.Prelude.{vec_len}
use Rattle.mx_pool.specs.Connections.{HaveServed}
use Rattle.mx_serve.specs.OfEngine.Shown.{Ties, stores_of}
use Rattle.mx_fold.specs.Lists.{Grows}
use Rattle.mx_pool.proofs.gathering.gather.Given as goal

-- the connections of the seats that are gathered, on what the pass has seen
abbrev pub invariant-seats : goal.invariant-seats
invariant-seats g l =
    Ties l.pool.server.engine l.pass × Grows (stores_of l.fn.pass) (stores_of l.pass) × (l.share.parts + vec_len l.rest ≡ vec_len l.fn.seats) × (l.share.parts ≤ g.N.Ledger.parts)
    × ∥ HaveServed g.N.Seating.service g.N.Seating.is_kind (stores_of l.pass) l.share.amount ∥₁

abbrev pub decreases-seats : goal.decreases-seats
decreases-seats g l = vec_len l.rest
