use Rattle.std.proofs.Common.{◌==◌, ◌||◌, length, nat_lt, ap, sym, ◌∙◌}
use Rattle.mx_parts.specs.Readings.{events_of, front_of, room_in}
use Rattle.mx_snapshot.specs.Looks.{all_now}
use Rattle.mx_visible.proofs.LastJoin.{room_ascends}
use Rattle.mx_pager.proofs.Firsts.{first_settled}
use Rattle.mx_pager.proofs.choosing.first_between.Goals as goal

pub returns-then-is_settled-clause-events : goal.returns-then-is_settled-clause-events
returns-then-is_settled-clause-events c =
    let v = c.args.reading.now in
    let until = c.stretch_end-until.result in
    let facts = first_settled (room_in v) (events_of v) (front_of v) (room_ascends v.room.now v.events.now c.front-front.ensures.placed)
    c.args.limit c.args.low until c.args.high c.stretch_end-until.ensures (all_now c.in_ok-made.made.items) c.in_ok-made.ensures
    (sym (c.is_settled.ensures ∙ ap (λ l. nat_lt c.args.limit (length (all_now l)) || (until == c.args.high)) c.deref.ensures.value) ∙ c.if-is_settled.true) in
    c.first_of-first.ensures.events ∙ facts.0

pub returns-then-is_settled-clause-more : goal.returns-then-is_settled-clause-more
returns-then-is_settled-clause-more c =
    let v = c.args.reading.now in
    let until = c.stretch_end-until.result in
    let facts = first_settled (room_in v) (events_of v) (front_of v) (room_ascends v.room.now v.events.now c.front-front.ensures.placed)
    c.args.limit c.args.low until c.args.high c.stretch_end-until.ensures (all_now c.in_ok-made.made.items) c.in_ok-made.ensures
    (sym (c.is_settled.ensures ∙ ap (λ l. nat_lt c.args.limit (length (all_now l)) || (until == c.args.high)) c.deref.ensures.value) ∙ c.if-is_settled.true) in
    c.first_of-first.ensures.more ∙ facts.1
