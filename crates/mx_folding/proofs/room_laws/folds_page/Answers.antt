use Rattle.mx_folding.proofs.room_laws.folds_page.Goals as goal
use Rattle.mx_folding.proofs.Pages as law

pub returns : goal.returns
returns g c = law.folds_page
