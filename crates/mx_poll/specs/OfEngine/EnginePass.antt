pub use Rattle.mx_engine.specs.declared.held.EnginePass.{EnginePass}
