use Rattle.mx_folding.proofs.room_laws.folds_nothing.Goals as goal
use Rattle.mx_folding.proofs.Rest as law

pub returns : goal.returns
returns g c = law.folds_nothing
