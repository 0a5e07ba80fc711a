pub use Rattle.mx_ask.specs.declared.said.Said.TheVariants.{Done, Room, Sent}
