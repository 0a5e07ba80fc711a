use Rattle.std.proofs.Common.{subst}
use Rattle.mx_core.specs.Runs.{IsReached}
use Rattle.mx_core.proofs.Machines.{held_positive, front_found}
use Rattle.mx_core.proofs.machine.Machine.front.Goals as goal

pub before_block-front-requires : goal.before_block-front-requires
before_block-front-requires g c = held_positive _ _ _ c.self.invariant.reached c.deref-block-items.ensures.value

pub returns : goal.returns
returns g c = front_found c.args.self.now _ _ _ (subst IsReached c.self.view_is c.self.invariant.reached) c.loop-block-test.false c.loop-block.invariant
