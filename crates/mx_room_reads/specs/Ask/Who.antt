pub use Rattle.mx_ask.specs.declared.ask.Who.{Who}
