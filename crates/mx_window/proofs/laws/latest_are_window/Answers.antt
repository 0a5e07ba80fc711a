use Rattle.mx_window.proofs.laws.latest_are_window.Goals as goal
use Rattle.mx_window.proofs.Sections.{last-between}

pub returns : goal.returns
returns g c = last-between
