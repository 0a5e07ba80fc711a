pub use Rattle.mx_engine.specs.Written.{Bound, KeepsMark, Made}
