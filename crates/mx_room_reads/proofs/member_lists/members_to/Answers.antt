use Rattle.std.proofs.Common.{ap, filter, subst, sym, ◌∙◌}
use Rattle.mx_ask.specs.declared.said.Said.TheVariants as said
use Rattle.mx_rest.specs.Servers.{lists_of}
use Rattle.mx_snapshot.specs.Looks.{all_now}
use Rattle.mx_room_reads.specs.Reads.{AreListed, all_shown, is_selected}
use Rattle.mx_room_reads.proofs.Listed.{members_listed}
use Rattle.mx_room_reads.proofs.member_lists.members_to.Goals as goal

pub all_shown-requires-clause-listed : goal.all_shown-requires-clause-listed
all_shown-requires-clause-listed c =
    let l = lists_of c.args.snapshot.now in
    let room = c.args.room.now in
    let test = is_selected c.args.membership.now c.args.not_membership.now in
    subst (AreListed l room)
    (sym (ap all_now c.deref-2.ensures.value ∙ c.in_ok-selected.ensures ∙ ap (filter test) (ap all_now c.deref.ensures.value ∙ c.in_ok-members.ensures)))
    (members_listed l room c.front-front.ensures.placed test c.args.place)

pub returns : goal.returns
returns c =
    let l = lists_of c.args.snapshot.now in
    let room = c.args.room.now in
    let test = is_selected c.args.membership.now c.args.not_membership.now in
    ap said.Members (c.in_ok-shown.ensures ∙ ap (all_shown l c.args.user.now room)
    (ap all_now c.deref-2.ensures.value ∙ c.in_ok-selected.ensures ∙ ap (filter test) (ap all_now c.deref.ensures.value ∙ c.in_ok-members.ensures)))
