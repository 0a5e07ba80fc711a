pub use Rattle.mx_core.specs.History.{Begins}
