use Rattle.std.proofs.Common.{◌≡◌, take}
use Rattle.mx_json.proofs.copied.+copy.Given as goal

abbrev pub invariant-copy_list-loop-item : goal.invariant-copy_list-loop-item
invariant-copy_list-loop-item l = l.copies.items ≡ take l.item-index l.item-items

abbrev pub invariant-copy_members-loop-member : goal.invariant-copy_members-loop-member
invariant-copy_members-loop-member l = l.copies.items ≡ take l.member-index l.member-items
