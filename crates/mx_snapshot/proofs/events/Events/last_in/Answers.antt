use Rattle.std.proofs.Common.{ap, ◌∙◌}
use Rattle.mx_event.specs.declared.event.Event.{Event}
use Rattle.mx_event.specs.Shown.{position_of}
use Rattle.mx_event.specs.Lawful.{same_room}
use Rattle.mx_snapshot.specs.Looks.{last_position}
use Rattle.mx_snapshot.proofs.Found.{test_top}
use Rattle.mx_snapshot.proofs.events.Events.last_in.Goals as goal

pub returns : goal.returns
returns c =
    test_top position_of c.self.inside.events.items (λ (e : Event). same_room e.room c.args.room.now) _ c.self.invariant.0 (c.room_positions.ensures ∙ c.self.invariant.1.rooms c.args.room.now) _ c.last_one.ensures
    ∙ ap (last_position position_of (λ (e : Event). same_room e.room c.args.room.now)) c.self.view_is
