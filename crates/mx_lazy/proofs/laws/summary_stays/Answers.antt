use Rattle.mx_lazy.proofs.Still.{summary_still}
use Rattle.mx_lazy.proofs.laws.summary_stays.Goals as goal

pub returns : goal.returns
returns c = summary_still
