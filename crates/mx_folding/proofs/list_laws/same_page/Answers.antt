use Rattle.mx_folding.proofs.list_laws.same_page.Goals as goal
use Rattle.mx_folding.proofs.Longer as law

pub returns : goal.returns
returns g c = law.same_page
