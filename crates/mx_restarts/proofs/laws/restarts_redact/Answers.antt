use Rattle.mx_restarts.proofs.Restarting as law
use Rattle.mx_restarts.proofs.laws.restarts_redact.Goals as goal

pub returns : goal.returns
returns c = law.restarts_redact
