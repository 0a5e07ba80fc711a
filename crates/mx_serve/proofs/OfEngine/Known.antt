pub use Rattle.mx_poll.proofs.OfEngine.Known.{grows_twice}
