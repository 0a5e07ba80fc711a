use Rattle.std.proofs.Common.{true, false, ap, filter, [], ◌∙◌}
use Rattle.mx_event.specs.Kinds.{is_of, member_type}
use Rattle.mx_state.proofs.Standing.{state_is}
use Rattle.mx_lazy.proofs.standing_members.members.Goals as goal

pub returns : goal.returns
returns c =
    c.in_ok-made.ensures
    ∙ ap (filter (is_of member_type))
    (state_is (record { keeps = λ e. true; keeps_type = λ kind. true; passes = λ e. true; lazy = false }) [] c.args.room.now c.args.position c.args.events.now c.front-front.ensures.placed)
