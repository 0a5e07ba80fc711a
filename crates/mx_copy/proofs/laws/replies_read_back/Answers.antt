use Rattle.mx_copy.proofs.Replies as law
use Rattle.mx_copy.proofs.laws.replies_read_back.Goals as goal

pub returns : goal.returns
returns c = law.replies_read_back
