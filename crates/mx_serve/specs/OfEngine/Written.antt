pub use Rattle.mx_poll.specs.OfEngine.Written.{Made}
