use Rattle.mx_event.proofs.Stays.{shown_stays}
use Rattle.mx_event.proofs.laws.shown_stays.Goals as goal

pub returns : goal.returns
returns c = shown_stays
