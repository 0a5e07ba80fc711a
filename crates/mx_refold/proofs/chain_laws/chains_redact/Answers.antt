use Rattle.mx_refold.proofs.chain_laws.chains_redact.Goals as goal
use Rattle.mx_refold.proofs.Chains as law

pub returns : goal.returns
returns g c = law.chains_redact
