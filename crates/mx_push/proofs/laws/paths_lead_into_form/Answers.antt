use Rattle.mx_push.proofs.ClientForm.{paths_lead_into_form}
use Rattle.mx_push.proofs.laws.paths_lead_into_form.Goals as goal

pub returns : goal.returns
returns c = paths_lead_into_form
