use Rattle.mx_pager.proofs.Same as law
use Rattle.mx_pager.proofs.laws.pages_are.Goals as goal

pub returns : goal.returns
returns g c = law.pages_are
