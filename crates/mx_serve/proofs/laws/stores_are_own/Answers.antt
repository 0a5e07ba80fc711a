use Rattle.mx_serve.proofs.Alone.{stores_are_own}
use Rattle.mx_serve.proofs.laws.stores_are_own.Goals as goal

pub returns : goal.returns
returns c = stores_are_own
