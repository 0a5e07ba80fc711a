pub use Rattle.mx_poll.specs.OfEngine.EnginePass.{EnginePass}
