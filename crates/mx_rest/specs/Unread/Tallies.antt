pub use Rattle.mx_unread.specs.declared.tallies.Tallies.{Tallies}
