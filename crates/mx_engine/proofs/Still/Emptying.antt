pub use Rattle.mx_still.proofs.Emptying.{stays_empty}
