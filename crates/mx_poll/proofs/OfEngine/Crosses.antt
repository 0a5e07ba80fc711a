pub use Rattle.mx_engine.proofs.Crosses.{engine_send, engine_sync, pass_send}
