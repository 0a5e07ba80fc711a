use Rattle.mx_lazy.proofs.Picking.{picks_same}
use Rattle.mx_lazy.proofs.laws.picks_are.Goals as goal

pub returns : goal.returns
returns c = picks_same
