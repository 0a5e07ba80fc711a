use Rattle.std.proofs.Common.{ap, ◌∙◌}
use Rattle.mx_event.specs.Shown.{position_of}
use Rattle.mx_snapshot.specs.Events.{is_member}
use Rattle.mx_snapshot.specs.Looks.{last_position}
use Rattle.mx_snapshot.proofs.Found.{test_top}
use Rattle.mx_snapshot.proofs.events.Events.last_member.Goals as goal

pub returns : goal.returns
returns c =
    test_top position_of c.self.inside.events.items (is_member c.args.room.now) _ c.self.invariant.0 (c.room_positions.ensures ∙ c.self.invariant.1.members c.args.room.now) _ c.last_one.ensures
    ∙ ap (last_position position_of (is_member c.args.room.now)) c.self.view_is
