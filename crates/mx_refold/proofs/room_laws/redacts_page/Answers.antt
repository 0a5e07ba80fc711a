use Rattle.mx_refold.proofs.room_laws.redacts_page.Goals as goal
use Rattle.mx_refold.proofs.Pages as law

pub returns : goal.returns
returns g c = law.redacts_page
