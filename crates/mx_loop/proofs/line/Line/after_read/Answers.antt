use Rattle.mx_loop.proofs.Waiting.{reading_waited}
use Rattle.mx_loop.proofs.line.Line.after_read.Goals as goal

pub returns-in-Stays-clause-waited : goal.returns-in-Stays-clause-waited
returns-in-Stays-clause-waited g c =
    reading_waited (g.C.Clock.last c.args.clock.now) c.args.pass.now c.args.pass.now c.in-Stays.state c.in-Stays.stepped (rw c.in-Stays.is at c.requires.reads)
