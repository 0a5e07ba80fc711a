use Rattle.std.proofs.Common.{◌≡◌, ◌+◌, ◌-◌, ◌^◌, min, take}
use Rattle.mx_json.specs.Texts.{members_len}
use Rattle.mx_json.proofs.Sizes.{items_len}
use Rattle.mx_json.proofs.+size.Given as goal

abbrev pub invariant-size::list_size-loop-item : goal.invariant-size::list_size-loop-item
invariant-size::list_size-loop-item l = l.size ≡ min (1 + items_len (take l.item-index l.item-items)) (2 ^ 64 - 1)

abbrev pub invariant-size::members_size-loop-member : goal.invariant-size::members_size-loop-member
invariant-size::members_size-loop-member l = l.size ≡ min (1 + members_len (take l.member-index l.member-items)) (2 ^ 64 - 1)
