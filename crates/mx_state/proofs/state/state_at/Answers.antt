use Rattle.std.proofs.Common.{◌∙◌}
use Rattle.mx_state.proofs.Standing.{state_is}
use Rattle.mx_state.proofs.state.state_at.Goals as goal

pub returns : goal.returns
returns c = λ f user. c.in_ok-made.ensures ∙ state_is f user c.args.room.now c.args.position c.args.events.now c.front-front.ensures.placed
