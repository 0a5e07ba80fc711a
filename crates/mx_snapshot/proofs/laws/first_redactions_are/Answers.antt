use Rattle.mx_snapshot.proofs.Firsts.{firsts_are}
use Rattle.mx_snapshot.proofs.laws.first_redactions_are.Goals as goal

pub returns : goal.returns
returns c = firsts_are
