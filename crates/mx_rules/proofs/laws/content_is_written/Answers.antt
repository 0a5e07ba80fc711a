use Rattle.mx_rules.proofs.WriteBack.{content_is_written}
use Rattle.mx_rules.proofs.laws.content_is_written.Goals as goal

pub returns : goal.returns
returns c = content_is_written
