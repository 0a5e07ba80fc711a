use Rattle.mx_fold.proofs.laws.clients_agree.Goals as goal
use Rattle.mx_fold.proofs.Folding as law

pub returns : goal.returns
returns g c = law.clients_agree
