pub use Rattle.mx_poll.proofs.OfEngine.Crosses.{pass_send}
