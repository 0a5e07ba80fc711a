use Rattle.mx_folding.proofs.room_laws.closed_timeline.Goals as goal
use Rattle.mx_folding.proofs.Rest as law

pub returns : goal.returns
returns g c = law.closed_timeline
