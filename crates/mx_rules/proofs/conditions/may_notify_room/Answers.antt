use Rattle.std.proofs.Common.{}
use Rattle.mx_rules.specs.Builtins.{may_notify_room}
use Rattle.mx_rules.proofs.Objects.{of_two}
use Rattle.mx_rules.proofs.conditions.may_notify_room.Goals as goal

pub returns : goal.returns
unfolding may_notify_room
returns c = of_two _ _ _ _ _ _ _ c.new-members.ensures c.in_ok-put_text.ensures c.in_ok-put_text-2.ensures
