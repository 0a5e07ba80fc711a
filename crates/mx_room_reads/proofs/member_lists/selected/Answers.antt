use Rattle.std.proofs.Common.{◌≡◌, ◌∷◌, ◌+◌, drop, arith}
use Rattle.std.proofs.lemmas.Grind.{common_steps}
use Rattle.mx_snapshot.specs.Looks.{all_now}
use Rattle.mx_parts.proofs.Picked.{kept_step}
use Rattle.mx_room_reads.specs.Reads.{is_selected}
use Rattle.mx_room_reads.proofs.member_lists.selected.Goals as goal

pub members-preserved : goal.members-preserved
members-preserved c =
    let members = c.args.members.now in
    let i = c.members.member-index in
    let next : drop i members ≡ c.member-item.result ∷ drop (i + 1) members = grind (arith, common_steps, c.member-item.is, c.members-test.true) in
    kept_step (is_selected c.args.membership.now c.args.not_membership.now) members i c.member-item.result (all_now c.members.made.items)
    (all_now c.keep.new.made.items) next c.members.invariant c.in_ok-keep.ensures
