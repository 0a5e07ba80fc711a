pub use Rattle.mx_engine.specs.Aims.Stored.{EntryAimed, EntryPut, Note, NoteAimed, ReceiptAimed, ReceiptPut, marker_put, receipts_put}
