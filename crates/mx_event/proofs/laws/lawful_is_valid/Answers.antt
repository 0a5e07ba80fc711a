use Rattle.mx_event.proofs.laws.lawful_is_valid.Goals as goal
use Rattle.mx_event.proofs.Lawfully as law

pub returns : goal.returns
returns g = law.lawful_is_valid
