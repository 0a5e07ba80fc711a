use Rattle.mx_event.proofs.laws.rooms_are_valid.Goals as goal
use Rattle.mx_event.proofs.Lawfully as law

pub returns : goal.returns
returns g = law.rooms_are_valid
