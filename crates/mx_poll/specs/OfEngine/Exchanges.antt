pub use Rattle.mx_engine.specs.Exchanges.{AreExchanges, AtMost, first_of}
