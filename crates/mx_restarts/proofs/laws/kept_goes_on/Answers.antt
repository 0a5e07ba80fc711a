use Rattle.mx_restarts.proofs.Keeping as law
use Rattle.mx_restarts.proofs.laws.kept_goes_on.Goals as goal

pub returns : goal.returns
returns c = law.kept_goes_on
