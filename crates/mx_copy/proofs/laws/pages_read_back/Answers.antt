use Rattle.mx_copy.proofs.Pages as law
use Rattle.mx_copy.proofs.laws.pages_read_back.Goals as goal

pub returns : goal.returns
returns c = law.pages_read_back
