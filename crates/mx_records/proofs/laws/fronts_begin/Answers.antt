use Rattle.mx_records.proofs.Fronts.{fronts}
use Rattle.mx_records.proofs.laws.fronts_begin.Goals as goal

pub returns : goal.returns
returns g c = fronts g.I.Recorded.value
