use Rattle.std.proofs.Math.Logic.{∥∥₁_map}
use Rattle.mx_serve.specs.OfEngine.Shown.{stores_of}
use Rattle.mx_pool.proofs.Gathered.{owes}
use Rattle.mx_pool.proofs.seated.Seated.take.Goals as goal

pub invariant_of-result-clause-owed : goal.invariant_of-result-clause-owed
invariant_of-result-clause-owed g c =
    let seat = c.args.self in
    ∥∥₁_map seat.served (owes g.N.Seating.service g.N.Seating.is_kind (stores_of seat.pass) seat.share.amount c.add.new.share.amount c.add.ensures.amount)
