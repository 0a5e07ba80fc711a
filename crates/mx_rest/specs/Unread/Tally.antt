pub use Rattle.mx_unread.specs.declared.running.Tally.{Tally}
