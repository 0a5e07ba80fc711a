use Rattle.mx_chains.proofs.Chaining as law
use Rattle.mx_chains.proofs.laws.clients_redact.Goals as goal

pub returns : goal.returns
returns c = law.clients_redact
