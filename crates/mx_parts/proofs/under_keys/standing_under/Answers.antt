use Rattle.std.proofs.Common.{map, ap, ◌∙◌}
use Rattle.mx_parts.specs.Under.{event_in}
use Rattle.mx_parts.proofs.Under.{under_is}
use Rattle.mx_parts.proofs.under_keys.standing_under.Goals as goal

pub returns : goal.returns
returns c = λ f user.
    c.in_ok-made.ensures ∙ ap (map event_in) c.in_ok-found.ensures
    ∙ under_is c.args.room.now c.args.events.now f user c.args.position c.args.keys.now c.front-front.ensures.placed
