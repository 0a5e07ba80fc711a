pub use Rattle.mx_engine.specs.declared.answered.Unstored.TheVariants.{Full, Lost}
