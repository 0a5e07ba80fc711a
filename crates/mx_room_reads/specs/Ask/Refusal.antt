pub use Rattle.mx_ask.specs.declared.refusal.Refusal.{Refusal}
