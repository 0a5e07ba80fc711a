pub use Rattle.mx_still.specs.Concerns.{is_still}
