pub use Rattle.mx_poll.specs.Aims.Asked.{Site}
