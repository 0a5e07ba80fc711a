use Rattle.mx_core.proofs.InPlace.{covered_in_place}
use Rattle.mx_core.proofs.laws.covered_stands_in_place.Goals as goal

pub returns : goal.returns
returns g c = covered_in_place
