use Rattle.std.proofs.Common.{◌≡◌, ◌+◌}
use Rattle.mx_serve.specs.OfEngine.Shown.{Ties, stores_of}
use Rattle.mx_pool.proofs.gathering.make_seats.Given as goal

-- a part of the ledger for each seat that isn't made yet
abbrev pub invariant-seats : goal.invariant-seats
invariant-seats g l =
    Ties l.server.engine l.pass × (stores_of l.pass ≡ stores_of l.fn.pass) × (l.share.parts + l._seat ≡ l.count) × (l.share.amount ≡ 0)
