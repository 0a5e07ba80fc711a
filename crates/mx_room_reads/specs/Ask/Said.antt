pub use Rattle.mx_ask.specs.declared.said.Said.{Said}
