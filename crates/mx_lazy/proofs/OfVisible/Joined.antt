pub use Rattle.mx_visible.proofs.Joined.{back}
