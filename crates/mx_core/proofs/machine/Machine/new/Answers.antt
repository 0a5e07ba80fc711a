use Rattle.std.proofs.Common.{rules}
use Rattle.mx_core.proofs.Machines.{machine_start}
use Rattle.mx_core.proofs.machine.Machine.new.Goals as goal

pub invariant_of-result : goal.invariant_of-result
invariant_of-result g c =
    machine_start c.args.writers c.args.limit _ _ c.requires.writers.1 c.requires.limit (search rules) c.new.ensures.items
