pub use Rattle.mx_engine.proofs.Known.{grows_twice}
