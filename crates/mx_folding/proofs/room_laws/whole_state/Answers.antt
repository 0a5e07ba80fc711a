use Rattle.mx_folding.proofs.room_laws.whole_state.Goals as goal
use Rattle.mx_folding.proofs.Rest as law

pub returns : goal.returns
returns g c = law.whole_state
