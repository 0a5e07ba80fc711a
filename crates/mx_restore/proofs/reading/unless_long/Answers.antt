use Rattle.std.proofs.Common.{subst}
use Rattle.mx_restore.specs.Batches.{StopsHere}
use Rattle.mx_restore.proofs.Batches.{long_open}
use Rattle.mx_restore.proofs.reading.unless_long.Goals as goal

pub returns-in-Open : goal.returns-in-Open
returns-in-Open c = long_open c.args.rest.now (subst (λ s. StopsHere s c.args.rest.now) c.in-Open.is c.requires) c.if-rest-le-LONGEST.false
