use Rattle.mx_lanes.proofs.UpTo.{up_to_front}
use Rattle.mx_lanes.proofs.laws.parts_are_covered.Goals as goal

pub returns : goal.returns
returns g c = up_to_front
