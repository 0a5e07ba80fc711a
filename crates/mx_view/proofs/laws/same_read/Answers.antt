use Rattle.mx_view.proofs.laws.same_read.Goals as goal
use Rattle.mx_view.proofs.Alike as law

pub returns : goal.returns
returns g c = law.same_read
