use Rattle.std.proofs.Common.{◌∙◌, ◌<◌, ◌≤◌, sym, ap, arith}
use Rattle.mx_event.specs.Kinds.{has_key, member_type}
use Rattle.mx_event.specs.Lawful.{of_room}
use Rattle.mx_event.specs.Shown.{position_of}
use Rattle.mx_window.specs.Lasts.{last_of}
use Rattle.mx_window.specs.Windows.{between}
use Rattle.mx_lazy.specs.Stays.{leaves}
use Rattle.mx_visible.proofs.LastJoin.{lies, room_ascends}
use Rattle.mx_lazy.proofs.Leaving.{ended, found, none, one_back}
use Rattle.mx_lazy.proofs.staying.has_left_after.Goals as goal

pub returns-then-has_left : goal.returns-then-has_left
returns-then-has_left c =
    let es = of_room c.args.room.now c.args.events.now in
    found c.args.user.now c.args.base c.args.since c.versions.last es (room_ascends c.args.room.now c.args.events.now c.front-front.ensures.placed) c.versions.invariant c.in-Some.own.now
    (sym (c.in-Some.ensures ∙ ap (λ u. last_of (has_key member_type u) (between position_of 0 c.versions.last es)) c.as_str.ensures.text))
    (sym c.has_left.ensures ∙ c.if-has_left.true)

pub versions-smaller : goal.versions-smaller
versions-smaller c =
    let es = of_room c.args.room.now c.args.events.now in
    let own = lies c.args.user.now c.versions.last es c.in-Some.own.now
    (sym (c.in-Some.ensures ∙ ap (λ u. last_of (has_key member_type u) (between position_of 0 c.versions.last es)) c.as_str.ensures.text)) in
    let low : 0 < c.in-Some.own.now.id.at = own.0 in
    let upto : c.in-Some.own.now.id.at ≤ c.versions.last = own.1 in
    omega (arith, low, upto, c.saturating_sub-last.ensures)

pub versions-preserved : goal.versions-preserved
versions-preserved c =
    let es = of_room c.args.room.now c.args.events.now in
    let own = sym (c.in-Some.ensures ∙ ap (λ u. last_of (has_key member_type u) (between position_of 0 c.versions.last es)) c.as_str.ensures.text) in
    ap (λ n. last_of (leaves c.args.user.now) (between position_of 0 n es)) c.saturating_sub-last.ensures
    ∙ one_back c.args.user.now c.args.base c.args.since c.versions.last es (room_ascends c.args.room.now c.args.events.now c.front-front.ensures.placed) c.versions.invariant c.in-Some.own.now own
    (sym c.has_left.ensures ∙ c.if-has_left.false)

pub returns-in-None : goal.returns-in-None
returns-in-None c =
    let es = of_room c.args.room.now c.args.events.now in
    none c.args.user.now c.args.base c.args.since c.versions.last es (room_ascends c.args.room.now c.args.events.now c.front-front.ensures.placed) c.versions.invariant
    (sym (c.in-None.ensures ∙ ap (λ u. last_of (has_key member_type u) (between position_of 0 c.versions.last es)) c.as_str.ensures.text))

pub returns : goal.returns
returns c = ended c.args.user.now c.args.base c.args.since c.versions.last (of_room c.args.room.now c.args.events.now) (room_ascends c.args.room.now c.args.events.now c.front-front.ensures.placed) c.versions.invariant c.versions-test.false
