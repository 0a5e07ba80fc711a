use Rattle.mx_folding.proofs.room_laws.folds_reply.Goals as goal
use Rattle.mx_folding.proofs.Replies as law

pub returns : goal.returns
returns g c = law.folds_reply
