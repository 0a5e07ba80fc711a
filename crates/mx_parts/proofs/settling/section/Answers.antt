use Rattle.std.proofs.Common.{List, ap, ap₂, filter, length, nat_lt, ◌||◌, ◌∙◌}
use Rattle.std.specs.Borrow.{Bor}
use Rattle.mx_event.specs.declared.event.Event.{Event}
use Rattle.mx_event.specs.Shown.{position_of}
use Rattle.mx_window.specs.Windows.{before_first}
use Rattle.mx_lazy.proofs.OfVisible.LastJoin.{room_ascends}
use Rattle.mx_snapshot.specs.Looks.{all_now}
use Rattle.mx_parts.specs.Readings.{events_of, front_of, room_in}
use Rattle.mx_parts.proofs.Settled.{limited_is, section_is}
use Rattle.mx_parts.proofs.settling.section.Goals as goal

pub returns-clause-events : goal.returns-clause-events
returns-clause-events c =
    let v = c.args.reading.now in
    let w = c.args.window.now in
    section_is (room_in v) (events_of v) (front_of v) (room_ascends v.room.now v.events.now c.front-front.ensures.placed) w.limit w.low w.high w.after
    (all_now c.in_ok-latest.latest.events.items) (all_now c.in_ok-sent.sent.items) c.cut_before-first.result c.begin-from.result
    c.in_ok-latest.ensures.events
    (c.cut_before-first.ensures ∙ ap (λ l. before_first position_of w.high (all_now l)) c.deref.ensures.value)
    c.begin-from.ensures
    (c.in_ok-sent.ensures ∙ ap (λ (l : List (Bor Event)). filter (λ (e : Event). nat_lt c.begin-from.result e.id.at) (all_now l)) c.deref-2.ensures.value)

pub returns-clause-limited : goal.returns-clause-limited
returns-clause-limited c =
    let v = c.args.reading.now in
    let w = c.args.window.now in
    limited_is (room_in v) (events_of v) (front_of v) (room_ascends v.room.now v.events.now c.front-front.ensures.placed) w.limit w.low w.high w.after
    (all_now c.in_ok-latest.latest.events.items) (all_now c.in_ok-sent.sent.items) c.cut_before-first.result c.begin-from.result
    c.in_ok-latest.ensures.events
    (c.cut_before-first.ensures ∙ ap (λ l. before_first position_of w.high (all_now l)) c.deref.ensures.value)
    c.begin-from.ensures
    (c.in_ok-sent.ensures ∙ ap (λ (l : List (Bor Event)). filter (λ (e : Event). nat_lt c.begin-from.result e.id.at) (all_now l)) c.deref-2.ensures.value)
    c.in_ok-latest.latest.more c.is_limited-limited.result c.in_ok-latest.ensures.more
    (c.is_limited-limited.ensures ∙ ap₂ (λ (a b : List (Bor Event)). c.in_ok-latest.latest.more || nat_lt (length (all_now a)) (length (all_now b))) c.deref-4.ensures.value c.deref-5.ensures.value)

pub returns-clause-cut : goal.returns-clause-cut
returns-clause-cut c =
    let v = c.args.reading.now in
    let w = c.args.window.now in
    c.cut_before-cut.ensures ∙ ap (λ l. before_first position_of w.high (all_now l)) c.deref-3.ensures.value
    ∙ ap (before_first position_of w.high) (section_is (room_in v) (events_of v) (front_of v) (room_ascends v.room.now v.events.now c.front-front.ensures.placed) w.limit w.low w.high w.after
    (all_now c.in_ok-latest.latest.events.items) (all_now c.in_ok-sent.sent.items) c.cut_before-first.result c.begin-from.result
    c.in_ok-latest.ensures.events
    (c.cut_before-first.ensures ∙ ap (λ l. before_first position_of w.high (all_now l)) c.deref.ensures.value)
    c.begin-from.ensures
    (c.in_ok-sent.ensures ∙ ap (λ (l : List (Bor Event)). filter (λ (e : Event). nat_lt c.begin-from.result e.id.at) (all_now l)) c.deref-2.ensures.value))
