use Rattle.mx_front.proofs.Allowed.{one_history}
use Rattle.mx_front.proofs.laws.seats_see_one_history.Goals as goal

pub returns : goal.returns
returns g c = one_history _
