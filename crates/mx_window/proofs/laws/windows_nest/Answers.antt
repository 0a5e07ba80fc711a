use Rattle.mx_window.proofs.laws.windows_nest.Goals as goal
use Rattle.mx_window.proofs.Intervals.{between-inner}

pub returns : goal.returns
returns g c = between-inner
