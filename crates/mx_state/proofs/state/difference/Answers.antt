use Rattle.std.proofs.Common.{◌∙◌}
use Rattle.mx_state.proofs.Standing.{standing_is}
use Rattle.mx_state.proofs.state.difference.Goals as goal

pub returns : goal.returns
returns c = λ f user. c.in_ok-made.ensures ∙ standing_is f user c.args.room.now c.args.from c.args.to c.args.events.now c.front-front.ensures.placed
