use Rattle.mx_folding.proofs.chain_laws.chains_fold.Goals as goal
use Rattle.mx_folding.proofs.Chains as law

pub returns : goal.returns
returns g c = law.chains_fold
