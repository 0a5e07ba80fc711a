-- What the streams hold are sets: two proofs of one equation are equal.
use Rattle.std.specs.Prelude.{List}
use Rattle.std.specs.Coded.{Coded-set, coded_list}
use Rattle.mx_account.specs.contracts.entry.Entry as entry
use Rattle.mx_account.specs.declared.entry.Entry.{Entry}
use Rattle.mx_event.specs.contracts.event.Event as event
use Rattle.mx_event.specs.declared.event.Event.{Event}
use Rattle.mx_receipt.specs.contracts.receipt.Receipt as receipt
use Rattle.mx_receipt.specs.declared.receipt.Receipt.{Receipt}

pub events_set : IsSet (List Event)
events_set = Coded-set (coded_list event.the_row.coded)

pub receipts_set : IsSet (List Receipt)
receipts_set = Coded-set (coded_list receipt.the_row.coded)

pub accounts_set : IsSet (List Entry)
accounts_set = Coded-set (coded_list entry.the_row.coded)
