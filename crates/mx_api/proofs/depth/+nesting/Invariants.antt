use Rattle.std.proofs.Common.{◌≡◌, nat_le, ◌-◌, true, take}
use Rattle.mx_api.specs.Levels.{levels}
use Rattle.mx_api.proofs.Depths.{deepest}
use Rattle.mx_api.proofs.depth.+nesting.Given as goal

abbrev pub invariant-list_within-loop-item : goal.invariant-list_within-loop-item
invariant-list_within-loop-item l = nat_le (deepest levels (take l.item-index l.item-items)) (l.most - 1) ≡ true

abbrev pub invariant-members_within-loop-member : goal.invariant-members_within-loop-member
invariant-members_within-loop-member l = nat_le (deepest (λ m. levels m.value) (take l.member-index l.member-items)) (l.most - 1) ≡ true
