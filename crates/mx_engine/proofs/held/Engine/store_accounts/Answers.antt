use Rattle.mx_engine.proofs.Later.{decides_as}
use Rattle.mx_engine.proofs.held.Engine.store_accounts.Goals as goal

pub returns-clause-wrote : goal.returns-clause-wrote
returns-clause-wrote g c = decides_as g.met.G.Outside.decides_accounts c.write_on.ensures.wrote
