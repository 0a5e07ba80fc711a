pub use Rattle.mx_poll.specs.OfEngine.Engine.{Engine}
