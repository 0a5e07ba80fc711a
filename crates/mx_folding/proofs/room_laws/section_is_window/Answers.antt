use Rattle.mx_folding.proofs.room_laws.section_is_window.Goals as goal
use Rattle.mx_folding.proofs.Cuts as law

pub returns : goal.returns
returns g c = law.section_is_window
