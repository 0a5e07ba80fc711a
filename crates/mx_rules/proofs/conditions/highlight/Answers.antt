use Rattle.std.proofs.Common.{}
use Rattle.mx_rules.specs.Builtins.{highlight}
use Rattle.mx_rules.proofs.Objects.{of_one}
use Rattle.mx_rules.proofs.conditions.highlight.Goals as goal

pub returns : goal.returns
unfolding highlight
returns c = of_one _ _ _ _ c.new-members.ensures c.in_ok-put_text.ensures
