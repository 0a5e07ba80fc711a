pub use Rattle.mx_unread.proofs.Crosses.{tallies_send}
