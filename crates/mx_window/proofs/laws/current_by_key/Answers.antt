use Rattle.mx_window.proofs.laws.current_by_key.Goals as goal
use Rattle.mx_window.proofs.Lasts.{last_of-picked}

pub returns : goal.returns
returns g c = last_of-picked
