use Rattle.std.proofs.Common.{List, ap, ◌∙◌}
use Rattle.mx_event.specs.declared.event.Event.{Event}
use Rattle.mx_event.specs.Shown.{position_of}
use Rattle.mx_window.specs.Windows.{between}
use Rattle.std.proofs.lemmas.Result.{IfOk-weaker}
use Rattle.mx_snapshot.specs.Events.{is_member, members}
use Rattle.mx_snapshot.proofs.Found.{test_rises, test_window}
use Rattle.mx_snapshot.proofs.events.Events.members.Goals as goal

pub within-requires : goal.within-requires
within-requires c = test_rises position_of c.self.inside.events.items (is_member c.args.room.now) _ c.self.invariant.0 (c.room_positions-positions.ensures ∙ c.self.invariant.1.members c.args.room.now)

pub returns : goal.returns
returns c =
    let es = c.self.inside.events.items in
    IfOk-weaker c.gather.result _ _ (λ made h. test_window position_of es (is_member c.args.room.now) c.room_positions-positions.result.now c.self.invariant.0 (c.room_positions-positions.ensures ∙ c.self.invariant.1.members c.args.room.now) c.args.low c.args.high c.within.result.now _ c.within.ensures h
    ∙ ap (λ (l : List Event). between position_of c.args.low c.args.high (members c.args.room.now l)) c.self.view_is) c.gather.ensures
