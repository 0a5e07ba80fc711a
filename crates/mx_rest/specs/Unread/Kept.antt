pub use Rattle.mx_unread.specs.Kept.{IsPlaced, IsSameUpTo, StandAll, StandsWithin, TalliesLast, fronts_in}
pub use Rattle.mx_unread.specs.Standing.{AreRead, RulesLast, Stand}
