use Rattle.mx_refold.proofs.client_laws.redacts_alike.Goals as goal
use Rattle.mx_refold.proofs.Alike as law

pub returns : goal.returns
returns g c = law.redacts_alike
