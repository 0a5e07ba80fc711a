use Rattle.std.proofs.Common.{ap, subst, sym, ◌∙◌}
use Rattle.mx_ask.specs.declared.said.Said.TheVariants as said
use Rattle.mx_rest.specs.Servers.{lists_of}
use Rattle.mx_snapshot.specs.Looks.{all_now}
use Rattle.mx_room_reads.specs.Reads.{AreListed, all_shown}
use Rattle.mx_room_reads.proofs.Listed.{state_is, states_listed}
use Rattle.mx_room_reads.proofs.room_states.state_to.Goals as goal

pub all_shown-shown-requires-clause-listed : goal.all_shown-shown-requires-clause-listed
all_shown-shown-requires-clause-listed c =
    let l = lists_of c.args.snapshot.now in
    let room = c.args.room.now in
    subst (AreListed l room) (sym (ap all_now c.deref.ensures.value ∙ state_is l room c.args.place _ c.in_ok-state.ensures))
    (states_listed l room c.front-front.ensures.placed c.args.place)

pub returns : goal.returns
returns c =
    let l = lists_of c.args.snapshot.now in
    let room = c.args.room.now in
    ap said.State (c.in_ok-shown.ensures ∙ ap (all_shown l c.args.user.now room) (ap all_now c.deref.ensures.value ∙ state_is l room c.args.place _ c.in_ok-state.ensures))
