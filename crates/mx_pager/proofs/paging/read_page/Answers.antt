use Rattle.std.proofs.Common.{Some, None, cond, ap, subst, sym, ◌∙◌}
use Rattle.mx_folding.specs.Parts.{members_of}
use Rattle.mx_parts.specs.Readings.{events_of, front_of, room_in}
use Rattle.mx_parts.specs.Sections.{AreListed}
use Rattle.mx_snapshot.specs.Looks.{all_now}
use Rattle.mx_pager.specs.Pages.{shown_at}
use Rattle.mx_pager.proofs.Whole.{chosen_listed, ordered_listed, page_is}
use Rattle.mx_pager.proofs.paging.read_page.Goals as goal

pub all_shown-chunk-requires-clause-listed : goal.all_shown-chunk-requires-clause-listed
all_shown-chunk-requires-clause-listed c =
    let v = c.args.reading.now in
    let ask = c.args.ask.now in
    let events = all_now c.in_ok-chosen.chosen.events.items in
    subst (AreListed v) (sym (ap all_now c.deref-2.ensures.value ∙ c.in_order-events.ensures))
    (ordered_listed v ask ask.backward events
    (subst (AreListed v) (sym c.in_ok-chosen.ensures.events) (chosen_listed v ask c.front-front.ensures.placed c.low-low.result c.high-high.result)))

pub returns-in-Ok : goal.returns-in-Ok
returns-in-Ok c =
    let v = c.args.reading.now in
    let ask = c.args.ask.now in
    let events = all_now c.in_ok-chosen.chosen.events.items in
    page_is v ask c.front-front.result c.low-low.result c.high-high.result c.members_at-position.result events (all_now c.in_order-events.result.items)
    c.in_ok-chosen.chosen.more c.in-Ok.chunk c.start.result c.end_of-end.result c.in_ok-members.members
    c.front-front.ensures.count c.low-low.ensures c.high-high.ensures c.in_ok-chosen.ensures.events c.in_ok-chosen.ensures.more c.members_at-position.ensures
    c.in_order-events.ensures (c.in-Ok.ensures ∙ ap (λ l. shown_at v.user.now (events_of v) (front_of v) (all_now l)) c.deref-2.ensures.value)
    c.start.ensures c.end_of-end.ensures
    (c.in_ok-members.ensures
    ∙ ap (λ l. cond (room_in v).lazy (Some (shown_at v.user.now (events_of v) (front_of v) (members_of (room_in v) (events_of v) c.members_at-position.result (all_now l)))) None) c.deref.ensures.value)
