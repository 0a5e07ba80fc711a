use Rattle.std.proofs.Common.{◌≡◌, drop}
use Rattle.mx_core.specs.State.{free_to}
use Rattle.mx_core.proofs.machine.Machine.front.Given as goal

abbrev pub invariant-loop-block : goal.invariant-loop-block
invariant-loop-block g l = free_to l.front (drop l.block-index l.block-items) ≡ free_to l.self.next l.self.held
