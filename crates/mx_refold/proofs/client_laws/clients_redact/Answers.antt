use Rattle.mx_refold.proofs.client_laws.clients_redact.Goals as goal
use Rattle.mx_refold.proofs.Exchanges as law

pub returns : goal.returns
returns g c = law.clients_redact
