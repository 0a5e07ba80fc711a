use Rattle.mx_filter.proofs.Sames.{filters_are}
use Rattle.mx_filter.proofs.laws.filters_are_same.Goals as goal

pub returns : goal.returns
returns g = filters_are
