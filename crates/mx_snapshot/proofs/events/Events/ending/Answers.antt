use Rattle.std.proofs.Common.{List, ap, ◌∙◌}
use Rattle.mx_event.specs.declared.event.Event.{Event}
use Rattle.mx_event.specs.Shown.{position_of}
use Rattle.mx_event.specs.Lawful.{of_room, same_room}
use Rattle.mx_window.specs.Windows.{between}
use Rattle.mx_window.specs.Lasts.{last}
use Rattle.std.proofs.lemmas.Result.{IfOk-weaker}
use Rattle.mx_snapshot.proofs.Found.{test_rises, test_ending}
use Rattle.mx_snapshot.proofs.events.Events.ending.Goals as goal

pub ending-requires : goal.ending-requires
ending-requires c = test_rises position_of c.self.inside.events.items (λ (e : Event). same_room e.room c.args.room.now) _ c.self.invariant.0 (c.room_positions-positions.ensures ∙ c.self.invariant.1.rooms c.args.room.now)

pub returns : goal.returns
returns c =
    let es = c.self.inside.events.items in
    IfOk-weaker c.gather.result _ _ (λ made h. test_ending position_of es (λ (e : Event). same_room e.room c.args.room.now) c.room_positions-positions.result.now c.self.invariant.0 (c.room_positions-positions.ensures ∙ c.self.invariant.1.rooms c.args.room.now) c.args.high c.args.most c.ending.result.now _ c.ending.ensures h
    ∙ ap (λ (l : List Event). last c.args.most (between position_of 0 c.args.high (of_room c.args.room.now l))) c.self.view_is) c.gather.ensures
