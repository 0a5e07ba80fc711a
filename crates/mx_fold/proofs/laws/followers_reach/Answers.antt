use Rattle.mx_fold.proofs.laws.followers_reach.Goals as goal
use Rattle.mx_fold.proofs.Following as law

pub returns : goal.returns
returns g c = law.followers_reach
