pub use Rattle.mx_sync.specs.contracts.known.Known.TheInside.{the_row, the_type}
