use Rattle.mx_event.proofs.Stays.{redacts_once}
use Rattle.mx_event.proofs.laws.redacts_once.Goals as goal

pub returns : goal.returns
returns c = redacts_once
