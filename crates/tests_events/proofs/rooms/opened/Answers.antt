use Rattle.std.proofs.Common.{◌≡◌, IfOk, OnOk, length, ap, subst, ◌∙◌}
use Rattle.mx_room.specs.Books.{Rooms, no_rooms}
use Rattle.mx_room.proofs.Positions.{first_below}
use Rattle.tests_events.proofs.rooms.opened.Goals as goal

pub returns : goal.returns
returns g c =
    let none : c.expect-rooms.result ≡ no_rooms 3 = subst (λ r. IfOk r (λ (b : Rooms). b ≡ no_rooms 3)) c.expect-rooms.ensures c.book.ensures in
    let pending : c.ready_room.new.self.pending ≡ c.first_events-events.result = subst (λ r. OnOk r (c.ready_room.new.self.pending ≡ c.first_events-events.result)) c.expect.ensures c.ready_room.ensures.pending in
    first_below c.ready_room.new.self c.take_in.new.self 5 2 (c.ready_room.ensures.same.stores ∙ ap (λ (b : Rooms). b.stores) none) (ap length pending ∙ c.first_events-events.ensures.count) c.take_in.ensures
