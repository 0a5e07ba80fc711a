use Rattle.std.proofs.Common.{◌∙◌, ap, ap₂, max}
use Rattle.mx_event.specs.Kinds.{has_key, member_type}
use Rattle.mx_event.specs.Lawful.{of_room}
use Rattle.mx_event.specs.Shown.{position_of}
use Rattle.mx_window.specs.Lasts.{last_at, last_of}
use Rattle.mx_window.specs.Windows.{between}
use Rattle.mx_window.proofs.Intervals.{Ascends-between}
use Rattle.mx_view.specs.Readings.{is_own, is_setting}
use Rattle.mx_visible.proofs.LastJoin.{room_ascends}
use Rattle.mx_visible.proofs.Marked.{later_of}
use Rattle.mx_visible.proofs.marks.last_mark.Goals as goal

pub returns : goal.returns
returns c =
    let es = of_room c.args.room.now c.args.events.now in
    c.max.ensures
    ∙ ap₂ max
    (c.position-own.ensures ∙ ap (last_at position_of 0) (c.last_of.ensures ∙ ap (λ u. last_of (has_key member_type u) (between position_of 0 c.args.high es)) c.as_str.ensures.text))
    (c.position-setting.ensures ∙ ap (last_at position_of 0) c.last_of-2.ensures)
    ∙ later_of position_of (is_own c.args.user.now) is_setting 0 (between position_of 0 c.args.high es) (Ascends-between position_of 0 0 c.args.high es (room_ascends c.args.room.now c.args.events.now c.front-front.ensures.placed))
