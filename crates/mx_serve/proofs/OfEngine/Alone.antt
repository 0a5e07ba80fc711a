pub use Rattle.mx_poll.proofs.OfEngine.Alone.{has_all}
