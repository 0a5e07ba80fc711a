use Rattle.std.proofs.Common.{◌≡◌, ◌++◌, drop, filter}
use Rattle.mx_room_reads.specs.Reads.{is_selected}
use Rattle.mx_snapshot.specs.Looks.{all_now}
use Rattle.mx_room_reads.proofs.member_lists.selected.Given as goal

abbrev pub invariant-members : goal.invariant-members
invariant-members l = all_now l.made.items ++ filter (is_selected l.membership l.not_membership) (all_now (drop l.member-index l.members)) ≡ filter (is_selected l.membership l.not_membership) (all_now l.members)
