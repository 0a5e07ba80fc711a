use Rattle.mx_filter.proofs.Sames.{pages}
use Rattle.mx_filter.proofs.laws.pages_fit.Goals as goal

pub returns : goal.returns
returns g = pages
