use Rattle.std.proofs.Common.{arith}
use Rattle.tests_loop.proofs.turns.woken.Goals as goal

pub step_on-third-requires-clause-within : goal.step_on-third-requires-clause-within
step_on-third-requires-clause-within g c = omega (arith, c.served-rest.ensures.within, c.served-sent.ensures.count)
