use Rattle.std.proofs.Common.{}
use Rattle.mx_rules.specs.Builtins.{is_edit}
use Rattle.mx_rules.proofs.Objects.{of_three}
use Rattle.mx_rules.proofs.conditions.is_edit.Goals as goal

pub returns : goal.returns
unfolding is_edit
returns c = of_three _ _ _ _ _ _ _ _ _ _ c.new-members.ensures c.in_ok-put_text.ensures c.in_ok-put_text-2.ensures c.in_ok-put_text-3.ensures
