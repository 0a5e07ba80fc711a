pub use Rattle.mx_sync.specs.Asks.{ahead_of, held}
