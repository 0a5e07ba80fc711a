use Rattle.mx_pool.specs.Connections.{change}
use Rattle.mx_pool.proofs.Outcomes.{told_cause}
use Rattle.mx_pool.proofs.session.users_told.Goals as goal

pub returns-in-Err-clause-cause : goal.returns-in-Err-clause-cause
returns-in-Err-clause-cause g c =
    told_cause (g.F.Files.told c.args.files.now c.args.name.now) (change (g.F.Files.faults c.args.files.now) (g.F.Files.faults c.users_of.new.files))
    c.in-Err.status c.tell_about.result c.in-Err.ensures.cause c.tell_about.ensures.status
