use Rattle.mx_window.proofs.laws.windows_join.Goals as goal
use Rattle.mx_window.proofs.Intervals.{between-split}

pub returns : goal.returns
returns g c = between-split
