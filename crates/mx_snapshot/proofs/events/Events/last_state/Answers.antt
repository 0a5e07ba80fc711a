use Rattle.std.proofs.Common.{List, Some, None, ap, is_some, ◌∙◌}
use Rattle.std.specs.Option.{option_copied}
use Rattle.mx_event.specs.declared.event.Event.{Event}
use Rattle.mx_event.specs.Shown.{position_of}
use Rattle.mx_event.specs.Lawful.{of_room}
use Rattle.mx_window.specs.Windows.{between}
use Rattle.mx_window.specs.Lasts.{last_of}
use Rattle.mx_snapshot.specs.Events.{is_state}
use Rattle.mx_snapshot.proofs.Found.{test_rises}
use Rattle.mx_snapshot.proofs.Looked.{last_state_event}
use Rattle.mx_snapshot.proofs.events.Events.last_state.Goals as goal

pub last_to-requires : goal.last_to-requires
last_to-requires c = test_rises position_of c.self.inside.events.items (is_state c.args.room.now) _ c.self.invariant.0 (c.room_positions-positions.ensures ∙ c.self.invariant.1.states c.args.room.now)

pub returns-in_err-position : goal.returns-in_err-position
returns-in_err-position c =
    ap option_copied c.from_residual.ensures
    ∙ last_state_event c.self.inside.events.items c.args.room.now c.args.high c.room_positions-positions.result.now None c.self.invariant.0 (c.room_positions-positions.ensures ∙ c.self.invariant.1.states c.args.room.now) c.in_err-position.ensures.found
    ∙ ap (λ (l : List Event). last_of (λ e. is_some e.state_key) (between position_of 0 c.args.high (of_room c.args.room.now l))) c.self.view_is

pub returns : goal.returns
returns c =
    c.at.ensures.item
    ∙ last_state_event c.self.inside.events.items c.args.room.now c.args.high c.room_positions-positions.result.now (Some c.in_ok-position.position) c.self.invariant.0 (c.room_positions-positions.ensures ∙ c.self.invariant.1.states c.args.room.now) c.in_ok-position.ensures.found
    ∙ ap (λ (l : List Event). last_of (λ e. is_some e.state_key) (between position_of 0 c.args.high (of_room c.args.room.now l))) c.self.view_is
