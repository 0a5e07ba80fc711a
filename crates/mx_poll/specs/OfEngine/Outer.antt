pub use Rattle.mx_engine.specs.Outer.{EntryFolds, EntryPlacing, EventFolds, EventPlacing, ReceiptFolds, ReceiptPlacing}
