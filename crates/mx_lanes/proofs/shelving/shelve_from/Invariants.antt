use Rattle.std.proofs.Common.{◌≡◌, take}
use Rattle.std.specs.Vec.{vec_len, vec_capacity}
use Rattle.mx_core.specs.History.{items_of}
use Rattle.mx_lanes.specs.Order.{by_index}
use Rattle.mx_lanes.proofs.shelving.shelve_from.Given as goal

abbrev pub invariant-stores : goal.invariant-stores
invariant-stores g l = (l.history.items ≡ l.initial.history.items) × (vec_len l.history ≡ vec_len l.initial.history) × (vec_capacity l.history ≡ vec_capacity l.initial.history)
    × (l.shelf ≡ items_of (take l.place (by_index l.initial.history.items l.order)))
