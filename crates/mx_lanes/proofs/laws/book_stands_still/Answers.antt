use Rattle.mx_lanes.proofs.Stands.{stands_still}
use Rattle.mx_lanes.proofs.laws.book_stands_still.Goals as goal

pub returns : goal.returns
returns g c = stands_still
