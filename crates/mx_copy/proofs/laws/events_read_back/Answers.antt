use Rattle.mx_copy.proofs.Events as law
use Rattle.mx_copy.proofs.laws.events_read_back.Goals as goal

pub returns : goal.returns
returns c = law.events_read_back
