use Rattle.mx_room.proofs.Events.{a_room}
use Rattle.mx_room.proofs.room_book.find_room.Goals as goal

pub returns-then-room-writer : goal.returns-then-room-writer
returns-then-room-writer c = a_room c.args.writer c.args.rooms.now c.args.room.now c.if-room-writer.true c.index_of.result c.index_of.ensures
