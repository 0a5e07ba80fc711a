pub use Rattle.mx_aims.specs.Stored.{EntryAimed, EntryPut, Note, NoteAimed, ReceiptAimed, ReceiptPut, marker_put, receipts_put, there}
