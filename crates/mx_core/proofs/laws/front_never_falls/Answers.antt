use Rattle.mx_core.proofs.Reached.{never_falls}
use Rattle.mx_core.proofs.laws.front_never_falls.Goals as goal

pub returns : goal.returns
returns g c = never_falls
