use Rattle.mx_window.proofs.laws.last_of_joined.Goals as goal
use Rattle.mx_window.proofs.Lasts.{last_of-append}

pub returns : goal.returns
returns g c = last_of-append
