use Rattle.std.proofs.Math.Logic.{∥∥₁_map}
use Rattle.mx_serve.specs.OfEngine.Shown.{stores_of}
use Rattle.mx_pool.proofs.Gathered.{forgives}
use Rattle.mx_pool.proofs.seated.Taken.leave.Goals as goal

pub invariant_of-result-clause-served : goal.invariant_of-result-clause-served
invariant_of-result-clause-served g c =
    let seat = c.args.self in
    ∥∥₁_map seat.owed (forgives g.N.Seating.service g.N.Seating.is_kind (stores_of seat.pass) c.sub.new.share.amount seat.share.amount c.sub.ensures.amount)
