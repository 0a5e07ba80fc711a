use Rattle.std.proofs.Common.{◌-◌, ◌≤◌, length}
use Rattle.mx_lanes.specs.Order.{by_index, IsReach}
use Rattle.mx_lanes.proofs.order.advanced.Given as goal

abbrev pub invariant-stores : goal.invariant-stores
invariant-stores g l = IsReach (by_index l.history l.order) l.reach.passed l.reach.front 0 × (l.fn.from.passed ≤ l.reach.passed)

abbrev pub decreases-stores : goal.decreases-stores
decreases-stores g l = length l.order - l.reach.passed
