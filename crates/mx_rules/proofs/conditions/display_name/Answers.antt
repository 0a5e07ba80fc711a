use Rattle.std.proofs.Common.{}
use Rattle.mx_rules.specs.Builtins.{display_name}
use Rattle.mx_rules.proofs.Objects.{of_one}
use Rattle.mx_rules.proofs.conditions.display_name.Goals as goal

pub returns : goal.returns
unfolding display_name
returns c = of_one _ _ _ _ c.new-members.ensures c.in_ok-put_text.ensures
