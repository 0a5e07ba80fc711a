use Rattle.std.proofs.Common.{}
use Rattle.mx_rules.specs.Builtins.{sound}
use Rattle.mx_rules.proofs.Objects.{of_two}
use Rattle.mx_rules.proofs.conditions.sound.Goals as goal

pub returns : goal.returns
unfolding sound
returns c = of_two _ _ _ _ _ _ _ c.new-members.ensures c.in_ok-put_text.ensures c.in_ok-put_text-2.ensures
