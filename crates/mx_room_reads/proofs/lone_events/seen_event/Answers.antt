use Rattle.std.proofs.Common.{true, false, sym, ◌∙◌}
use Rattle.mx_folding.specs.Visible.{is_visible}
use Rattle.mx_view.specs.Readings.{viewer_of}
use Rattle.mx_fold.specs.Lists.{events_in}
use Rattle.mx_rest.specs.Servers.{lists_of}
use Rattle.mx_room_reads.specs.Places.{front_of}
use Rattle.mx_room_reads.specs.Reads.{named_event}
use Rattle.mx_room_reads.proofs.Seen.{kept_is, seen_is}
use Rattle.mx_room_reads.proofs.lone_events.seen_event.Goals as goal

pub returns-then-visible-clause-found : goal.returns-then-visible-clause-found
returns-then-visible-clause-found c =
    let l = lists_of c.args.snapshot.now in
    let user = c.args.user.now in
    let room = c.args.room.now in
    let e = c.in_ok-event.event.now in
    kept_is (is_visible (viewer_of user) (events_in l room) (front_of l)) (named_event l user room c.args.text.now) e true (sym c.in_ok-event.ensures.found)
    (seen_is l user room e c.in_ok-event.ensures.listed c.front-front.result c.front-front.ensures.count true (sym c.if-visible.true ∙ c.visible.ensures))

pub returns-else-visible-clause-found : goal.returns-else-visible-clause-found
returns-else-visible-clause-found c =
    let l = lists_of c.args.snapshot.now in
    let user = c.args.user.now in
    let room = c.args.room.now in
    let e = c.in_ok-event.event.now in
    kept_is (is_visible (viewer_of user) (events_in l room) (front_of l)) (named_event l user room c.args.text.now) e false (sym c.in_ok-event.ensures.found)
    (seen_is l user room e c.in_ok-event.ensures.listed c.front-front.result c.front-front.ensures.count false (sym c.if-visible.false ∙ c.visible.ensures))
