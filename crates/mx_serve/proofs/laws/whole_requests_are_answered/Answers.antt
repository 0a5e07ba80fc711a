use Rattle.mx_serve.proofs.Complete.{all_answered}
use Rattle.mx_serve.proofs.laws.whole_requests_are_answered.Goals as goal

pub returns : goal.returns
returns c = all_answered
