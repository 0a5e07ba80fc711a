use Rattle.mx_core.proofs.laws.runs_are_orderly.Goals as goal
use Rattle.mx_core.proofs.Orders as law

pub returns : goal.returns
returns g c = law.runs_are_orderly
