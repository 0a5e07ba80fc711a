pub use Rattle.mx_engine.specs.declared.held.Engine.{Engine}
