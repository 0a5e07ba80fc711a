use Rattle.mx_folding_needs.proofs.premises.all_are_asked.Goals as goal
use Rattle.mx_folding_needs.proofs.All as law

pub returns : goal.returns
returns g c = law.all_are_asked
