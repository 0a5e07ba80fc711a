use Rattle.std.proofs.Common.{◌≡◌, ◌≤◌, ◌*◌, take}
use Rattle.mx_lanes.specs.Space.{total}
use Rattle.mx_lanes.proofs.space.total_spare.Given as goal

abbrev pub invariant-lanes : goal.invariant-lanes
invariant-lanes l = (l.sum ≡ total (take l.spare-index l.spares)) × (l.sum ≤ l.spare-index * 65535)
