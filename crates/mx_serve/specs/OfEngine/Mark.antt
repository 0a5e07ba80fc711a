pub use Rattle.mx_poll.specs.OfEngine.Mark.{Mark}
