use Rattle.mx_core.proofs.laws.covers_to_front.Goals as goal
use Rattle.mx_core.proofs.Covering as law

pub returns : goal.returns
returns g c = law.covers_to_front
