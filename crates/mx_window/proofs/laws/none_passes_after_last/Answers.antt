use Rattle.mx_window.proofs.laws.none_passes_after_last.Goals as goal
use Rattle.mx_window.proofs.Sections.{after-last}

pub returns : goal.returns
returns g c = after-last
