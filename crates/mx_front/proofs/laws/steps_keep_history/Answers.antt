use Rattle.mx_front.proofs.Allowed.{steps_grow}
use Rattle.mx_front.proofs.laws.steps_keep_history.Goals as goal

pub returns : goal.returns
returns g c = steps_grow _
