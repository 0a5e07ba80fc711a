use Rattle.std.proofs.Common.{◌≡◌, ◌≤◌, length, take}
use Rattle.mx_account.proofs.Walk.{last_content}
use Rattle.mx_account.specs.Values.{value_at}
use Rattle.mx_account.proofs.values.value.Given as goal

-- the entries that were passed are none of this user, room and type
abbrev pub invariant-entries : goal.invariant-entries
invariant-entries l =
    (l.position ≤ length l.list.items)
    × (last_content l.user l.wanted l.kind (take l.position l.list.items) ≡ value_at l.user l.wanted l.kind l.a l.list.items)

abbrev pub decreases-entries : goal.decreases-entries
decreases-entries l = l.position
