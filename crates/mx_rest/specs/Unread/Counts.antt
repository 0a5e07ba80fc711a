pub use Rattle.mx_unread.specs.declared.unread_counts.Counts.{Counts}
