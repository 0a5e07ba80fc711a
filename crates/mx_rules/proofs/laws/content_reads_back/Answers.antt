use Rattle.mx_rules.proofs.ReadBack.{content_reads_back}
use Rattle.mx_rules.proofs.laws.content_reads_back.Goals as goal

pub returns : goal.returns
returns c = content_reads_back
