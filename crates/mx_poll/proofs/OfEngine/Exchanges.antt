pub use Rattle.mx_engine.proofs.Exchanges.{at_exit, kept_first, longer}
