use Rattle.mx_folding.proofs.room_laws.sent_is_visible.Goals as goal
use Rattle.mx_folding.proofs.Cuts as law

pub returns : goal.returns
returns g c = law.sent_is_visible
