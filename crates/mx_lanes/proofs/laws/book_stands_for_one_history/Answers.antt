use Rattle.mx_lanes.proofs.Stands.{one_history}
use Rattle.mx_lanes.proofs.laws.book_stands_for_one_history.Goals as goal

pub returns : goal.returns
returns g c = one_history
