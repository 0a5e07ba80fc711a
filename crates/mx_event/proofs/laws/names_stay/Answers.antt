use Rattle.mx_event.proofs.Stays.{names_stay}
use Rattle.mx_event.proofs.laws.names_stay.Goals as goal

pub returns : goal.returns
returns c = names_stay
