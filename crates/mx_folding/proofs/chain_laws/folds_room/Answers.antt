use Rattle.mx_folding.proofs.chain_laws.folds_room.Goals as goal
use Rattle.mx_folding.proofs.Memberships as law

pub returns : goal.returns
returns g c = law.folds_room
