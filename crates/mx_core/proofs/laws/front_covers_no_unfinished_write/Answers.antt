use Rattle.mx_core.proofs.Reached.{covers_no_unfinished_write}
use Rattle.mx_core.proofs.laws.front_covers_no_unfinished_write.Goals as goal

pub returns : goal.returns
returns g c = covers_no_unfinished_write
