use Rattle.std.proofs.Common.{◌∙◌, ap}
use Rattle.mx_event.specs.Kinds.{has_key, member_type}
use Rattle.mx_event.specs.Lawful.{of_room}
use Rattle.mx_event.specs.Shown.{position_of}
use Rattle.mx_window.specs.Lasts.{last_of}
use Rattle.mx_window.specs.Windows.{between}
use Rattle.mx_snapshot.specs.Looks.{all_now}
use Rattle.mx_visible.specs.Walks.{all_sighted}
use Rattle.mx_visible.proofs.LastJoin.{room_ascends}
use Rattle.mx_visible.proofs.Walked.{window_sights}
use Rattle.mx_visible.proofs.visibility.sight.Goals as goal

pub returns : goal.returns
returns c =
    let es = of_room c.args.room.now c.args.events.now in
    window_sights c.args.user.now c.args.low c.args.high c.args.front es (all_now c.deref.result.now) _ _ _ (all_sighted c.in_ok-made.made.items)
    (room_ascends c.args.room.now c.args.events.now c.front-front.ensures.placed)
    (c.last_of.ensures ∙ ap (λ u. last_of (has_key member_type u) (between position_of 0 c.args.low es)) c.as_str.ensures.text)
    c.last_of-2.ensures
    c.last_join.ensures
    (ap all_now c.deref.ensures.value ∙ c.in_ok-window.ensures)
    (λ past rest is. c.in_ok-made.ensures past rest c.args.front is)
