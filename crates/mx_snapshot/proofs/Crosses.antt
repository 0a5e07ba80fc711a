-- A snapshot may go to another thread, and threads may share it.
use denote.Param.Send.{IsSend, IsSync, view_send, view_sync, sendable}
use denote.Param.SendFields.{declared_send, declared_sync, variants_send, variants_sync}
use Rattle.std.proofs.Crossing.{crosses}
use Rattle.mx_ids.proofs.room_id.RoomId.TheSendSync as room
use Rattle.mx_ids.proofs.event_id.EventId.TheSendSync as id
use Rattle.mx_ids.proofs.text.Text.TheSendSync as text
use Rattle.mx_ids.proofs.user.UserId.TheSendSync as user
use Rattle.mx_json.specs.contracts.value.Json as Json
use Rattle.mx_json.proofs.value.Json.TheLaws.TheKnot.{crosses as json}
use Rattle.mx_receipt.proofs.Lanes.Parts as parts
use Rattle.mx_event.specs.contracts.event.Event as Event
use Rattle.mx_event.proofs.event.Txn.TheSendSync as txn
use Rattle.mx_account.specs.contracts.entry.Entry as Entry
use Rattle.mx_snapshot.proofs.account_index.AccountIndex.TheSendSync as account_index
use Rattle.mx_snapshot.proofs.event_index.EventIndex.TheSendSync as event_index
use Rattle.mx_snapshot.proofs.receipts.Receipts.TheSendSync as receipts
use Rattle.mx_snapshot.specs.contracts.accounts.Accounts.TheInside as accounts_inside
use Rattle.mx_snapshot.specs.contracts.accounts.Accounts as Accounts
use Rattle.mx_snapshot.specs.contracts.events.Events.TheInside as events_inside
use Rattle.mx_snapshot.specs.contracts.events.Events as Events
use Rattle.mx_snapshot.specs.contracts.snapshot.Snapshot as Snapshot

json_send : IsSend Json.the_row
json_send = search (sendable, crosses, json) depth 30

json_sync : IsSync Json.the_row
json_sync = search (sendable, crosses, json) depth 30

event_send : IsSend Event.the_row
event_send = declared_send Event.the_type (
  id.the_send,
  (room.the_send, (text.the_send, (search (text.the_send, sendable) depth 9, (user.the_send, (json_send, (search sendable depth 9, (search (txn.the_send, sendable) depth 9, (search sendable depth 9, tt)))))))),
)

event_sync : IsSync Event.the_row
event_sync = declared_sync Event.the_type (
  id.the_sync,
  (room.the_sync, (text.the_sync, (search (text.the_sync, sendable) depth 9, (user.the_sync, (json_sync, (search sendable depth 9, (search (txn.the_sync, sendable) depth 9, (search sendable depth 9, tt)))))))),
)

entry_send : IsSend Entry.the_row
entry_send = variants_send Entry.enum (
  (user.the_send, (search (room.the_send, sendable) depth 9, (text.the_send, (json_send, (search sendable depth 9, tt))))),
  ((user.the_send, (search sendable depth 9, (json_send, (search sendable depth 9, tt)))), tt),
)

entry_sync : IsSync Entry.the_row
entry_sync = variants_sync Entry.enum (
  (user.the_sync, (search (room.the_sync, sendable) depth 9, (text.the_sync, (json_sync, (search sendable depth 9, tt))))),
  ((user.the_sync, (search sendable depth 9, (json_sync, (search sendable depth 9, tt)))), tt),
)

events_send : IsSend Events.the_row
events_send = view_send events_inside.the_row _ _ _ _ (declared_send events_inside.the_type (search (parts.the_send, event_send, event_sync, sendable) depth 9, (event_index.the_send, tt)))

events_sync : IsSync Events.the_row
events_sync = view_sync events_inside.the_row _ _ _ _ (declared_sync events_inside.the_type (search (parts.the_sync, event_send, event_sync, sendable) depth 9, (event_index.the_sync, tt)))

accounts_send : IsSend Accounts.the_row
accounts_send = view_send accounts_inside.the_row _ _ _ _ (declared_send accounts_inside.the_type (search (parts.the_send, entry_send, entry_sync, sendable) depth 9, (account_index.the_send, tt)))

accounts_sync : IsSync Accounts.the_row
accounts_sync = view_sync accounts_inside.the_row _ _ _ _ (declared_sync accounts_inside.the_type (search (parts.the_sync, entry_send, entry_sync, sendable) depth 9, (account_index.the_sync, tt)))

pub send : IsSend Snapshot.the_row
send = declared_send Snapshot.the_type (events_send, (receipts.the_send, (accounts_send, tt)))

pub sync : IsSync Snapshot.the_row
sync = declared_sync Snapshot.the_type (events_sync, (receipts.the_sync, (accounts_sync, tt)))
