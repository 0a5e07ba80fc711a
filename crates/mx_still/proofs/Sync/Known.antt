pub use Rattle.mx_sync.specs.contracts.known.Known.{the_row}
