use Rattle.std.proofs.Common.{◌<◌, length, arith}
use Rattle.mx_lanes.specs.Order.{by_index}
use Rattle.mx_lanes.proofs.Books.{above_none}
use Rattle.mx_lanes.proofs.Orders.{above_more, length-by_index}
use Rattle.mx_lanes.proofs.order.place_for.Goals as goal

pub places-init : goal.places-init
places-init g c = (c.requires.passed, omega arith, above_none (by_index c.args.history.now c.args.order.now) (length c.args.order.now) c.args.first (omega (arith, length-by_index c.args.history.now c.args.order.now c.requires.valid)))

pub places-preserved : goal.places-preserved
places-preserved g c =
    let lt : c.args.passed < c.places.place = c.places-test.true in
    (omega arith, omega (arith, c.places.invariant.1), above_more (by_index c.args.history.now c.args.order.now) c.places.place c.args.first c.store_at.result.now (omega arith) c.store_at.ensures (omega (arith, c.if-first.false, c.first.ensures)) c.places.invariant.2)
