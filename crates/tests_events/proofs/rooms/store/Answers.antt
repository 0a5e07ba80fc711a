use Rattle.std.proofs.Common.{◌≡◌, ◌+◌, ◌<◌, List, length, sym, ap, subst, ◌∙◌}
use Rattle.std.specs.List.{AllByRecursion}
use Rattle.mx_core.specs.History.{items_of}
use Rattle.mx_core.specs.declared.history.Stored.{Stored}
use Rattle.mx_event.specs.declared.event.Event.{Event}
use Rattle.mx_room.specs.Admitting.{ready_block}
use Rattle.mx_room.specs.Books.{Rooms, events_of, taken_in}
use Rattle.mx_room.proofs.Positions.{taken_below}
use Rattle.tests_events.proofs.rooms.store.Goals as goal

pub returns : goal.returns
returns g c =
    let at = c.args.position in
    let before = c.admit.new.self in
    let one : length before.pending ≡ 1 = ap length (c.in-Ok-Ready.ensures.pending ∙ ap (λ a. ready_block a c.args.rooms.now.pending) c.in-Ok-Ready.field-0-is) in
    let below = subst (λ (ss : List (Stored Event)). AllByRecursion (λ (e : Event). e.id.at < at) (items_of ss)) (sym c.admit.ensures.same.stores) c.requires.below in
    subst (λ (r : Rooms). AllByRecursion (λ (e : Event). e.id.at < at + 1) (events_of r)) (sym c.take_in.ensures)
    (subst (λ n. AllByRecursion (λ (e : Event). e.id.at < at + n) (events_of (taken_in before at))) one (taken_below before at below))
