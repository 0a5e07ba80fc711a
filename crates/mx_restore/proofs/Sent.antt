-- What a thread reads of a journal may go to another thread.
use denote.Param.Send.{IsSend, sendable}
use denote.Param.SendFields.{declared_send, variants_send}
use Rattle.std.proofs.Crossing.{crosses}
use Rattle.mx_aims.specs.contracts.creation.Creation as Creation
use Rattle.mx_aims.specs.contracts.events.EventDraft as EventDraft
use Rattle.mx_auth.proofs.Crosses.{json_send}
use Rattle.mx_engine.specs.contracts.record.Record as Record
use Rattle.mx_engine.proofs.record.Again.TheSendSync as again
use Rattle.mx_entries.specs.contracts.drafts.EntryDraft as EntryDraft
use Rattle.mx_entries.specs.contracts.drafts.ReceiptDraft as ReceiptDraft
use Rattle.mx_entries.specs.contracts.drafts.RuleChange as RuleChange
use Rattle.mx_entries.proofs.drafts.ReceiptDraft.TheSendSync as receipt
use Rattle.mx_event.specs.contracts.draft.Draft as Draft
use Rattle.mx_event.proofs.event.Txn.TheSendSync as txn
use Rattle.mx_ids.proofs.room_id.RoomId.TheSendSync as room
use Rattle.mx_ids.proofs.text.Text.TheSendSync as text
use Rattle.mx_ids.proofs.user.UserId.TheSendSync as user
use Rattle.mx_restore.specs.contracts.reading.Batch as Batch
use Rattle.mx_restore.specs.contracts.reading.LineSaid as LineSaid
use Rattle.mx_restore.specs.contracts.reading.ReadLine as ReadLine
use Rattle.mx_restore.proofs.reading.Stopped.TheSendSync as stopped
use Rattle.mx_room.proofs.Crosses.{weighed_send}
use Rattle.mx_rules.proofs.rule.Kind.TheSendSync as kind

draft_send : IsSend Draft.the_row
draft_send = declared_send Draft.the_type (room.the_send, (text.the_send, (search (text.the_send, sendable) depth 9, (user.the_send, (json_send, (search sendable depth 9, (search (txn.the_send, sendable) depth 9, tt)))))))

creation_send : IsSend Creation.the_row
creation_send = declared_send Creation.the_type (search (draft_send, crosses, sendable) depth 12, tt)

event_send : IsSend EventDraft.the_row
event_send = variants_send EventDraft.enum ((weighed_send, tt), ((weighed_send, tt), ((weighed_send, (search (user.the_send, sendable) depth 9, tt)), ((creation_send, tt), tt))))

change_send : IsSend RuleChange.the_row
change_send = variants_send RuleChange.enum (
  (kind.the_send, (text.the_send, (json_send, (search (text.the_send, sendable) depth 9, (search (text.the_send, sendable) depth 9, tt))))),
  (
    (kind.the_send, (text.the_send, tt)),
    ((kind.the_send, (text.the_send, (search sendable depth 9, tt))), ((kind.the_send, (text.the_send, (json_send, tt))), tt)),
  ),
)

entry_send : IsSend EntryDraft.the_row
entry_send = variants_send EntryDraft.enum (
  (user.the_send, (search (room.the_send, sendable) depth 9, (text.the_send, (json_send, tt)))),
  (
    (user.the_send, (json_send, tt)),
    (
      (user.the_send, (search sendable depth 9, tt)),
      (
        (user.the_send, (room.the_send, (text.the_send, (json_send, tt)))),
        ((user.the_send, (room.the_send, (text.the_send, tt))), ((user.the_send, (change_send, tt)), tt)),
      ),
    ),
  ),
)

record_send : IsSend Record.the_row
record_send = variants_send Record.enum (
  (again.the_send EventDraft.the_row event_send, tt),
  ((again.the_send ReceiptDraft.the_row receipt.the_send, tt), ((again.the_send EntryDraft.the_row entry_send, tt), tt)),
)

said_send : IsSend LineSaid.the_row
said_send = variants_send LineSaid.enum ((record_send, tt), ((json_send, tt), tt))

line_send : IsSend ReadLine.the_row
line_send = declared_send ReadLine.the_type (search (crosses, sendable) depth 12, (said_send, tt))

pub batch_send : IsSend Batch.the_row
batch_send = declared_send Batch.the_type (search (line_send, crosses, sendable) depth 12, (stopped.the_send, tt))
