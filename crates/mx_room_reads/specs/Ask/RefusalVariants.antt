pub use Rattle.mx_ask.specs.declared.refusal.Refusal.TheVariants.{BadAction, BadCondition, DefaultRule, Denied, Forbidden, NoNeighbour, NotFound, Preset, State, TooLarge, TooMany, Version}
