use Rattle.std.proofs.Common.{◌+◌, sym, ◌∙◌, subst, arith}
use Rattle.mx_lanes.specs.Order.{by_index, IsReach}
use Rattle.mx_lanes.proofs.Orders.{reach_more, reach_stop, reach_end, length-by_index}
use Rattle.mx_lanes.proofs.order.advanced.Goals as goal

pub returns-then-first-reach-clause-reach : goal.returns-then-first-reach-clause-reach
returns-then-first-reach-clause-reach g c = reach_stop _ _ _ _ c.stores.invariant.0 c.store_at-store.ensures (λ e. c.if-first-reach.true (c.first.ensures ∙ e))

pub overflow_add-reach-in-stores-2 : goal.overflow_add-reach-in-stores-2
overflow_add-reach-in-stores-2 g c =
    let more = reach_more _ _ _ _ c.stores.invariant.0 c.store_at-store.ensures (sym c.first.ensures ∙ c.if-first-reach.false) in
    omega (arith, more.below, c.len.ensures)

pub stores-preserved : goal.stores-preserved
stores-preserved g c = (
  subst (λ n. IsReach (by_index c.args.history.now c.args.order.now) (c.stores.reach.passed + 1) (c.stores.reach.front + n) 0) (sym c.len.ensures)
      (reach_more _ _ _ _ c.stores.invariant.0 c.store_at-store.ensures (sym c.first.ensures ∙ c.if-first-reach.false)),
  omega (arith, c.stores.invariant.1),
)

pub returns-clause-reach : goal.returns-clause-reach
returns-clause-reach g c = reach_end _ _ _ c.stores.invariant.0 (omega (arith, length-by_index c.args.history.now c.args.order.now c.requires.valid, c.stores-test.false))
