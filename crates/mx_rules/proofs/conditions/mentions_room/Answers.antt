use Rattle.std.proofs.Common.{}
use Rattle.mx_rules.specs.Builtins.{mentions_room}
use Rattle.mx_rules.proofs.Objects.{of_three}
use Rattle.mx_rules.proofs.conditions.mentions_room.Goals as goal

pub returns : goal.returns
unfolding mentions_room
returns c = of_three _ _ _ _ _ _ _ _ _ _ c.new-members.ensures c.in_ok-put_text.ensures c.in_ok-put_text-2.ensures c.in_ok-put.ensures
