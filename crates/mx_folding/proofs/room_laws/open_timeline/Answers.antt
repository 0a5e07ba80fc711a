use Rattle.mx_folding.proofs.room_laws.open_timeline.Goals as goal
use Rattle.mx_folding.proofs.Rest as law

pub returns : goal.returns
returns g c = law.open_timeline
