use Rattle.std.proofs.Common.{◌≡◌, ◌+◌, ◌≤◌, ◌++◌, reverse}
use Rattle.std.specs.Vec.{vec_len, vec_capacity}
use Rattle.mx_lanes.proofs.entry.share.Given as goal

abbrev pub invariant-items : goal.invariant-items
invariant-items g l = (l.shared.items ++ reverse l.rest.items ≡ l.initial.shared.items ++ reverse l.initial.rest.items) × (vec_len l.shared + vec_len l.rest ≤ vec_capacity l.shared)

abbrev pub decreases-items : goal.decreases-items
decreases-items g l = vec_len l.rest
