use Rattle.std.proofs.Common.{◌≡◌, get_or, arith}
use Rattle.mx_lanes.proofs.Books.{total_more}
use Rattle.mx_lanes.proofs.space.total_spare.Goals as goal

pub lanes-preserved : goal.lanes-preserved
lanes-preserved c =
    let is : c.from-sum.result ≡ get_or c.args.spares.now c.lanes.spare-index 0 = c.from-sum.ensures in
    (omega (arith, is, c.lanes.invariant.0, total_more c.args.spares.now c.lanes.spare-index c.lanes-test.true), omega (arith, is, c.lanes.invariant.1, c.type_inv.spares c.lanes.spare-index))
