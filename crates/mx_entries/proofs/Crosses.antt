-- The writers of account data and of receipts may go to another thread.
use denote.Param.Send.{IsSend, sendable}
use denote.Param.SendFields.{declared_send, variants_send}
use Rattle.std.proofs.Crossing.{crosses}
use Rattle.mx_account.specs.contracts.entry.Entry as Entry
use Rattle.mx_ids.proofs.room_id.RoomId.TheSendSync as room_id
use Rattle.mx_ids.proofs.text.Text.TheSendSync as text
use Rattle.mx_ids.proofs.user.UserId.TheSendSync as user
use Rattle.mx_json.specs.contracts.value.Json as Json
use Rattle.mx_json.proofs.value.Json.TheLaws.TheKnot.{crosses as json}
use Rattle.mx_receipt.proofs.receipt.Receipt.TheSendSync as receipt
use Rattle.mx_entries.specs.contracts.account_writer.Accounts as Accounts
use Rattle.mx_entries.specs.contracts.receipt_writer.Receipts as Receipts
use Rattle.mx_entries.proofs.shelf.Shelf.TheSendSync as shelf

json_send : IsSend Json.the_row
json_send = search (sendable, crosses, json) depth 30

entry_send : IsSend Entry.the_row
entry_send = variants_send Entry.enum ((user.the_send, (search (room_id.the_send, sendable) depth 9, (text.the_send, (json_send, (search sendable depth 9, tt))))), ((user.the_send, (search sendable depth 9, (json_send, (search sendable depth 9, tt)))), tt))

pub accounts_send : IsSend Accounts.the_row
accounts_send = declared_send Accounts.the_type (search (shelf.the_send, entry_send, sendable) depth 9, tt)

pub receipts_send : IsSend Receipts.the_row
receipts_send = declared_send Receipts.the_type (search (shelf.the_send, receipt.the_send, sendable) depth 9, tt)
