use Rattle.mx_json.proofs.Whole.{comes}
use Rattle.mx_json.proofs.laws.data_is_whole.Goals as goal

pub returns : goal.returns
returns c = comes
