use Rattle.mx_folding.proofs.list_laws.all_told_at.Goals as goal
use Rattle.mx_folding.proofs.Lists as law

pub returns : goal.returns
returns g c = law.all_told_at
