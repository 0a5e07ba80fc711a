use Rattle.mx_folding.proofs.visible_laws.same_visible.Goals as goal
use Rattle.mx_folding.proofs.Longer as law

pub returns : goal.returns
returns g c = law.same_seen
