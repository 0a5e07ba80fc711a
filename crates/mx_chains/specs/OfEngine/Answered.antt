pub use Rattle.mx_engine.specs.declared.answered.Answered.{Answered}
