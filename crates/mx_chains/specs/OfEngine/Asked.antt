pub use Rattle.mx_engine.specs.Aims.Asked.{Site}
