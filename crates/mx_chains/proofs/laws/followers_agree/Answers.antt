use Rattle.mx_chains.proofs.Chaining as law
use Rattle.mx_chains.proofs.laws.followers_agree.Goals as goal

pub returns : goal.returns
returns c = law.followers_agree
