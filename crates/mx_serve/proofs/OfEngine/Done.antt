pub use Rattle.mx_poll.proofs.OfEngine.Done.{all_self}
