use Rattle.mx_filter.proofs.Sames.{by_type}
use Rattle.mx_filter.proofs.laws.folds_by_type.Goals as goal

pub returns : goal.returns
returns g = by_type
