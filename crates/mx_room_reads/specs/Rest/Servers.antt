pub use Rattle.mx_rest.specs.Servers.{AreValid, lists_of}
