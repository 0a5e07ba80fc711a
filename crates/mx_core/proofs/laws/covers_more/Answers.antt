use Rattle.mx_core.proofs.laws.covers_more.Goals as goal
use Rattle.mx_core.proofs.Covering as law

pub returns : goal.returns
returns g c = law.covers_more
