use Rattle.std.proofs.Common.{ap, sym, append-nil, nat_le, nat_lt, length, ◌&&◌, ◌∙◌}
use Rattle.mx_event.specs.Shown.{position_of}
use Rattle.mx_folding.specs.Sections.{sendable}
use Rattle.mx_folding.specs.Visible.{is_visible}
use Rattle.mx_window.specs.Lasts.{last_at, last_of}
use Rattle.mx_window.specs.Windows.{between}
use Rattle.mx_view.specs.Readings.{viewer_of}
use Rattle.mx_lazy.proofs.OfVisible.LastJoin.{room_ascends}
use Rattle.mx_snapshot.specs.Looks.{all_now}
use Rattle.mx_parts.specs.Readings.{events_of, front_of, room_in, sieve}
use Rattle.mx_parts.proofs.Reached.{further, goes_back, is_inside, walked}
use Rattle.mx_parts.proofs.latest.walk_back.Goals as goal

pub stretches-smaller : goal.stretches-smaller
stretches-smaller c =
    let v = c.args.reading.now in
    goes_back (sieve v) v.user.now (events_of v) (front_of v) (room_ascends v.room.now v.events.now c.front-front.ensures.placed) c.args.low c.args.high c.stretches.end c.last_visible-last.result c.in_ok-begin.begin
    (is_inside c.args.low c.stretches.end (length (all_now c.deref.result.now)) c.args.most (sym c.is_open.ensures ∙ c.stretches-test.true))
    (c.last_visible-last.ensures ∙ ap (λ f. last_at position_of c.args.low (last_of (is_visible (viewer_of v.user.now) (events_of v) f) (between position_of c.args.low c.stretches.end (events_of v)))) c.front-front.ensures.count)
    c.in_ok-begin.ensures.back

pub stretches-preserved : goal.stretches-preserved
stretches-preserved c =
    let v = c.args.reading.now in
    further (sieve v) v.user.now (events_of v) (front_of v) (room_ascends v.room.now v.events.now c.front-front.ensures.placed) c.args.low c.args.high c.stretches.end c.last_visible-last.result c.in_ok-begin.begin
    (all_now c.stretches.found.items) _
    (is_inside c.args.low c.stretches.end (length (all_now c.deref.result.now)) c.args.most (sym c.is_open.ensures ∙ c.stretches-test.true))
    (c.last_visible-last.ensures ∙ ap (λ f. last_at position_of c.args.low (last_of (is_visible (viewer_of v.user.now) (events_of v) f) (between position_of c.args.low c.stretches.end (events_of v)))) c.front-front.ensures.count)
    c.in_ok-begin.ensures.least c.in_ok-begin.ensures.back c.in_ok-push_back.ensures c.stretches.invariant

pub returns : goal.returns
returns c =
    let v = c.args.reading.now in (
      sendable (room_in v) (events_of v) (front_of v) c.args.low c.stretches.end,
      sym c.stretches.invariant,
      walked (sieve v) v.user.now (events_of v) (front_of v) (room_ascends v.room.now v.events.now c.front-front.ensures.placed) c.args.low c.args.high c.stretches.end c.args.most (all_now c.stretches.found.items)
          (ap (λ l. nat_lt c.args.low c.stretches.end && nat_le (length (all_now l)) c.args.most) (sym c.deref.ensures.value) ∙ sym c.is_open.ensures ∙ c.stretches-test.false),
    )
