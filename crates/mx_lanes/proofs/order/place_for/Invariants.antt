use Rattle.std.proofs.Common.{◌<◌, ◌≤◌, length, drop}
use Rattle.std.specs.List.{AllByRecursion}
use Rattle.mx_lanes.specs.Order.{by_index}
use Rattle.mx_lanes.proofs.order.place_for.Given as goal

abbrev pub invariant-places : goal.invariant-places
invariant-places g l = (l.passed ≤ l.place) × (l.place ≤ length l.order) × AllByRecursion (λ s. l.first < s.first) (drop l.place (by_index l.history l.order))

abbrev pub decreases-places : goal.decreases-places
decreases-places g l = l.place
