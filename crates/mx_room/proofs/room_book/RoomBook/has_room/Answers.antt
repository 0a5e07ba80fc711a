use Rattle.std.proofs.Common.{◌∙◌}
use Rattle.mx_room.proofs.Events.{has_by_index}
use Rattle.mx_room.proofs.room_book.RoomBook.has_room.Goals as goal

pub returns : goal.returns
returns c = c.is_some.ensures ∙ has_by_index c.self.invariant c.args.self.now c.self.view_is c.args.room.now c.as_slice.result.now c.as_slice.ensures.value c.find_room.result c.find_room.ensures
