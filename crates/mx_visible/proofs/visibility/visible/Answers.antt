use Rattle.std.proofs.Common.{◌∙◌, ap, nat_lt}
use Rattle.mx_event.specs.Lawful.{of_room}
use Rattle.mx_visible.specs.Walks.{allowed_about}
use Rattle.mx_visible.proofs.LastJoin.{room_ascends}
use Rattle.mx_visible.proofs.Walked.{visible_is}
use Rattle.mx_visible.proofs.visibility.visible.Goals as goal

pub returns : goal.returns
returns c =
    let es = of_room c.args.event.now.room c.args.events.now in
    c.allowed_about.ensures
    ∙ ap (λ n. allowed_about c.args.user.now es (nat_lt c.args.event.now.id.at n) c.args.event.now) c.last_join.ensures
    ∙ visible_is c.args.user.now c.args.front c.args.event.now es (room_ascends c.args.event.now.room c.args.events.now c.front-front.ensures.placed)
