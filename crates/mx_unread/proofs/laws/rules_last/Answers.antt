use Rattle.mx_unread.proofs.Rereading as law
use Rattle.mx_unread.proofs.laws.rules_last.Goals as goal

pub returns : goal.returns
returns c = law.rules_last
