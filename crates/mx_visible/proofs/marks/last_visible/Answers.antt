use Rattle.std.proofs.Common.{◌∙◌, sym, ap, true}
use Rattle.mx_event.specs.Lawful.{of_room}
use Rattle.mx_event.specs.Shown.{position_of}
use Rattle.mx_folding.specs.Visible.{is_visible}
use Rattle.mx_view.specs.Readings.{viewer_of}
use Rattle.mx_visible.proofs.LastJoin.{room_ascends}
use Rattle.mx_visible.proofs.Marked.{ended, found_here, is_passed, less, none_left, own_room}
use Rattle.mx_visible.proofs.marks.last_visible.Goals as goal

pub returns-then-visible : goal.returns-then-visible
returns-then-visible c =
    let es = of_room c.args.room.now c.args.events.now in
    let e = c.in-Some.last.now in
    c.max.ensures
    ∙ found_here position_of (λ d. true) (is_visible (viewer_of c.args.user.now) es c.args.front) es (room_ascends c.args.room.now c.args.events.now c.front-front.ensures.placed) c.args.low c.args.high c.marks.end c.marks.invariant e (sym c.in-Some.ensures)
    (ap (λ r. is_visible (viewer_of c.args.user.now) (of_room r c.args.events.now) c.args.front e) (sym (own_room c.args.room.now c.args.events.now (λ d. true) c.marks.end e (sym c.in-Some.ensures))) ∙ sym c.visible.ensures ∙ c.if-visible.true)

pub marks-smaller : goal.marks-smaller
marks-smaller c =
    let es = of_room c.args.room.now c.args.events.now in
    less c.args.user.now es (room_ascends c.args.room.now c.args.events.now c.front-front.ensures.placed) c.marks.end c.in-Some.last.now (sym c.in-Some.ensures) c.hidden_after-end.result c.hidden_after-end.ensures

pub marks-preserved : goal.marks-preserved
marks-preserved c =
    let es = of_room c.args.room.now c.args.events.now in
    let e = c.in-Some.last.now in
    is_passed c.args.user.now es (room_ascends c.args.room.now c.args.events.now c.front-front.ensures.placed) c.args.front c.marks.end e (sym c.in-Some.ensures) c.hidden_after-end.result c.hidden_after-end.ensures
    (ap (λ r. is_visible (viewer_of c.args.user.now) (of_room r c.args.events.now) c.args.front e) (sym (own_room c.args.room.now c.args.events.now (λ d. true) c.marks.end e (sym c.in-Some.ensures))) ∙ sym c.visible.ensures ∙ c.if-visible.false)
    ∙ c.marks.invariant

pub returns-in-None : goal.returns-in-None
returns-in-None c =
    let es = of_room c.args.room.now c.args.events.now in
    none_left position_of (λ d. true) (is_visible (viewer_of c.args.user.now) es c.args.front) es (room_ascends c.args.room.now c.args.events.now c.front-front.ensures.placed) c.args.low c.args.high c.marks.end c.marks.invariant (sym c.in-None.ensures)

pub returns : goal.returns
returns c =
    let es = of_room c.args.room.now c.args.events.now in
    ended position_of (λ d. true) (is_visible (viewer_of c.args.user.now) es c.args.front) es (room_ascends c.args.room.now c.args.events.now c.front-front.ensures.placed) c.args.low c.args.high c.marks.end c.marks.invariant c.marks-test.false
