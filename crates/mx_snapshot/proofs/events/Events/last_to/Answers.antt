use Rattle.std.proofs.Common.{List, Some, None, ap, true, ◌∙◌}
use Rattle.std.specs.Option.{option_copied}
use Rattle.mx_event.specs.declared.event.Event.{Event}
use Rattle.mx_event.specs.Shown.{position_of}
use Rattle.mx_event.specs.Lawful.{of_room, same_room}
use Rattle.mx_window.specs.Windows.{between}
use Rattle.mx_window.specs.Lasts.{last_of}
use Rattle.mx_snapshot.proofs.Found.{test_rises}
use Rattle.mx_snapshot.proofs.Looked.{last_event}
use Rattle.mx_snapshot.proofs.events.Events.last_to.Goals as goal

pub last_to-requires : goal.last_to-requires
last_to-requires c = test_rises position_of c.self.inside.events.items (λ (e : Event). same_room e.room c.args.room.now) _ c.self.invariant.0 (c.room_positions-positions.ensures ∙ c.self.invariant.1.rooms c.args.room.now)

pub returns-in_err-position : goal.returns-in_err-position
returns-in_err-position c =
    ap option_copied c.from_residual.ensures
    ∙ last_event c.self.inside.events.items c.args.room.now c.args.high c.room_positions-positions.result.now None c.self.invariant.0 (c.room_positions-positions.ensures ∙ c.self.invariant.1.rooms c.args.room.now) c.in_err-position.ensures.found
    ∙ ap (λ (l : List Event). last_of (λ e. true) (between position_of 0 c.args.high (of_room c.args.room.now l))) c.self.view_is

pub returns : goal.returns
returns c =
    c.at.ensures.item
    ∙ last_event c.self.inside.events.items c.args.room.now c.args.high c.room_positions-positions.result.now (Some c.in_ok-position.position) c.self.invariant.0 (c.room_positions-positions.ensures ∙ c.self.invariant.1.rooms c.args.room.now) c.in_ok-position.ensures.found
    ∙ ap (λ (l : List Event). last_of (λ e. true) (between position_of 0 c.args.high (of_room c.args.room.now l))) c.self.view_is
