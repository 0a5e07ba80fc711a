-- The rooms of a writer may go to another thread, and threads may share them; a weighed draft may go to another thread.
use denote.Param.Send.{IsSend, IsSync, view_send, view_sync, sendable}
use denote.Param.SendFields.{declared_send, declared_sync}
use Rattle.std.proofs.Crossing.{crosses}
use Rattle.std.proofs.MapsCrossing.{crosses as maps}
use Rattle.mx_auth.proofs.Crosses as auth
use Rattle.mx_auth.proofs.Crosses.{json_send}
use Rattle.mx_event.specs.contracts.event.Event as Event
use Rattle.mx_event.proofs.event.Txn.TheSendSync as txn
use Rattle.mx_ids.proofs.event_id.EventId.TheSendSync as id
use Rattle.mx_ids.proofs.room_id.RoomId.TheSendSync as room
use Rattle.mx_ids.proofs.text.Text.TheSendSync as text
use Rattle.mx_ids.proofs.user.UserId.TheSendSync as user
use Rattle.mx_room.specs.contracts.room_book.RoomBook as RoomBook
use Rattle.mx_room.specs.contracts.room_book.RoomBook.TheInside as inside
use Rattle.mx_room.specs.contracts.rooms.Room as Room
use Rattle.mx_room.specs.contracts.txns.SentTxn as SentTxn
use Rattle.mx_room.specs.contracts.txns.TxnIndex as TxnIndex
use Rattle.mx_room.specs.contracts.weighed.Weighed as Weighed
use Rattle.mx_room.specs.contracts.weighed.Weighed.TheInside as weighed
use Rattle.mx_room.proofs.txn_key.TxnKey.TheSendSync as key
use Rattle.mx_room.proofs.ledger.Ledger.TheSendSync as ledger

room_send : IsSend Room.the_row
room_send = declared_send Room.the_type (search sendable depth 9, (auth.send, tt))

room_sync : IsSync Room.the_row
room_sync = declared_sync Room.the_type (search sendable depth 9, (auth.sync, tt))

sent_send : IsSend SentTxn.the_row
sent_send = declared_send SentTxn.the_type (search (key.the_send, sendable) depth 9, (search (id.the_send, sendable) depth 9, tt))

sent_sync : IsSync SentTxn.the_row
sent_sync = declared_sync SentTxn.the_type (search (key.the_sync, sendable) depth 9, (search (id.the_sync, sendable) depth 9, tt))

index_send : IsSend TxnIndex.the_row
index_send = declared_send TxnIndex.the_type (search (key.the_send, id.the_send, crosses, maps, sendable) depth 12, (search (sent_send, sendable) depth 9, tt))

index_sync : IsSync TxnIndex.the_row
index_sync = declared_sync TxnIndex.the_type (search (key.the_sync, id.the_sync, crosses, maps, sendable) depth 12, (search (sent_sync, sendable) depth 9, tt))

pub send : IsSend RoomBook.the_row
send = view_send inside.the_row _ _ _ _ (declared_send inside.the_type (
  search sendable depth 9,
  (
    search sendable depth 9,
    (
      search (room_send, crosses, sendable) depth 9,
      (
        index_send,
        (
          search (key.the_send, sendable) depth 9,
          (search (auth.send, sendable) depth 9, (ledger.the_send, tt)),
        ),
      ),
    ),
  ),
))

pub sync : IsSync RoomBook.the_row
sync = view_sync inside.the_row _ _ _ _ (declared_sync inside.the_type (
  search sendable depth 9,
  (
    search sendable depth 9,
    (
      search (room_sync, crosses, sendable) depth 9,
      (
        index_sync,
        (
          search (key.the_sync, sendable) depth 9,
          (search (auth.sync, sendable) depth 9, (ledger.the_sync, tt)),
        ),
      ),
    ),
  ),
))

event_send : IsSend Event.the_row
event_send = declared_send Event.the_type (id.the_send, (room.the_send, (text.the_send, (search (text.the_send, sendable) depth 9, (user.the_send, (json_send, (search sendable depth 9, (search (txn.the_send, sendable) depth 9, (search sendable depth 9, tt)))))))))

pub weighed_send : IsSend Weighed.the_row
weighed_send = view_send weighed.the_row _ _ _ _ (declared_send weighed.the_type (event_send, (search (key.the_send, sendable) depth 9, (search sendable depth 9, tt))))
