use Rattle.mx_folding.proofs.visible_laws.stays_visible.Goals as goal
use Rattle.mx_folding.proofs.Sees as law

pub returns : goal.returns
returns g c = law.stays_visible
