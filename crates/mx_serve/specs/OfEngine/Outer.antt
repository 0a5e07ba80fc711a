pub use Rattle.mx_poll.specs.OfEngine.Outer.{EntryFolds, EntryPlacing, EventFolds, EventPlacing, ReceiptFolds, ReceiptPlacing}
