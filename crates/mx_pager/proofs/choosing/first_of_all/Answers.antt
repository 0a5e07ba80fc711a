use Rattle.std.proofs.Common.{length, nat_lt, take, ap, sym, ◌∙◌}
use Rattle.mx_folding.specs.Sections.{sendable}
use Rattle.mx_parts.specs.Readings.{events_of, front_of, room_in}
use Rattle.mx_pager.proofs.Firsts.{take_less}
use Rattle.mx_pager.proofs.choosing.first_of_all.Goals as goal

pub returns-clause-events : goal.returns-clause-events
returns-clause-events c = c.first_of-first.ensures.events ∙ ap (take c.args.limit) c.in_ok-made.ensures

pub returns-clause-more : goal.returns-clause-more
returns-clause-more c =
    let v = c.args.reading.now in
    c.first_of-first.ensures.more ∙ ap (λ l. nat_lt c.args.limit (length l)) c.in_ok-made.ensures
    ∙ sym (take_less c.args.limit (sendable (room_in v) (events_of v) (front_of v) c.args.low c.args.high))
