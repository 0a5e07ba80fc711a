use Rattle.std.proofs.Common.{take}
use Rattle.mx_create.specs.Strangers.{Removes}
use Rattle.mx_create.proofs.invited.remove.Given as goal

abbrev pub invariant-users : goal.invariant-users
invariant-users l = Removes (take l.user-index l.users) l.initial.strangers l.strangers
