use Rattle.std.proofs.Common.{◌∙◌, ◌&&◌, ◌<◌, ◌≤◌, is_some, sym, ap, true, false, arith}
use Rattle.mx_window.specs.Lasts.{last_of}
use Rattle.mx_window.specs.Windows.{between}
use Rattle.mx_event.specs.Shown.{position_of}
use Rattle.mx_lazy.proofs.OfVisible.Joined.{back}
use Rattle.mx_lazy.proofs.OfVisible.LastJoin.{room_ascends}
use Rattle.mx_lazy.proofs.OfVisible.Marked.{ended, found_here, none_left, own_room}
use Rattle.mx_parts.specs.Readings.{events_of}
use Rattle.mx_parts.proofs.Breaking.{broken, hidden_now, hides, lies}
use Rattle.mx_parts.proofs.settling.last_break.Goals as goal

pub returns-then-is_hidden : goal.returns-then-is_hidden
returns-then-is_hidden c =
    let v = c.args.reading.now in
    let e = c.in-Some.event.now in
    c.max.ensures
    ∙ found_here position_of (λ e. is_some e.state_key) (hides v) (events_of v) (room_ascends v.room.now v.events.now c.front-front.ensures.placed) c.args.low c.args.high c.states.end c.states.invariant e (sym c.in-Some.ensures)
    (hidden_now v c.front-front.result e c.is_hidden.result (own_room v.room.now v.events.now (λ e. is_some e.state_key) c.states.end e (sym c.in-Some.ensures)) c.front-front.ensures.count c.is_hidden.ensures true c.if-is_hidden.true)
    ∙ broken v c.args.low c.args.high

pub states-smaller : goal.states-smaller
states-smaller c =
    let within = lies c.args.reading.now c.states.end c.in-Some.event.now (sym c.in-Some.ensures) in
    let low : 0 < c.in-Some.event.now.id.at = within.0 in
    let upto : c.in-Some.event.now.id.at ≤ c.states.end = within.1 in
    omega (arith, low, upto, c.saturating_sub-end.ensures)

pub states-preserved : goal.states-preserved
states-preserved c =
    let v = c.args.reading.now in
    let e = c.in-Some.event.now in
    ap (λ n. last_of (λ e. is_some e.state_key && hides v e) (between position_of 0 n (events_of v))) c.saturating_sub-end.ensures
    ∙ back position_of (λ e. is_some e.state_key) (hides v) 0 c.states.end (events_of v) e (room_ascends v.room.now v.events.now c.front-front.ensures.placed) (sym c.in-Some.ensures)
    (hidden_now v c.front-front.result e c.is_hidden.result (own_room v.room.now v.events.now (λ e. is_some e.state_key) c.states.end e (sym c.in-Some.ensures)) c.front-front.ensures.count c.is_hidden.ensures false c.if-is_hidden.false)
    ∙ c.states.invariant

pub returns-in-None : goal.returns-in-None
returns-in-None c =
    let v = c.args.reading.now in
    none_left position_of (λ e. is_some e.state_key) (hides v) (events_of v) (room_ascends v.room.now v.events.now c.front-front.ensures.placed) c.args.low c.args.high c.states.end c.states.invariant (sym c.in-None.ensures)
    ∙ broken v c.args.low c.args.high

pub returns : goal.returns
returns c =
    let v = c.args.reading.now in
    ended position_of (λ e. is_some e.state_key) (hides v) (events_of v) (room_ascends v.room.now v.events.now c.front-front.ensures.placed) c.args.low c.args.high c.states.end c.states.invariant c.states-test.false
    ∙ broken v c.args.low c.args.high
