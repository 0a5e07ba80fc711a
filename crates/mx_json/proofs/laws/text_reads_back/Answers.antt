use Rattle.mx_json.proofs.ReadBack.{reads_back}
use Rattle.mx_json.proofs.laws.text_reads_back.Goals as goal

pub returns : goal.returns
returns c = reads_back
