use Rattle.std.proofs.lemmas.Result.{err_from_is_err_and}
use Rattle.mx_engine.specs.Answers.{nothing}
use Rattle.mx_restore.proofs.Wrongs.{of_opening, opened_wrong}
use Rattle.mx_restore.proofs.opening.engine_on.Goals as goal

pub returns-in_err-log-clause-wrong : goal.returns-in_err-log-clause-wrong
returns-in_err-log-clause-wrong g c =
    let setup = c.args.setup in
    let p = err_from_is_err_and c.from_residual.result c.from_residual.ensures.1 in
    rw (p.1, p.2) (of_opening (record { users = setup.users; writers = setup.workers }) (g.J.Logs.told c.args.logs.now c.args.name.now) nothing c.in_err-log.field-0.0 c.in_err-log.ensures.fault)

pub returns-in-Ok-clause-stores : goal.returns-in-Ok-clause-stores
returns-in-Ok-clause-stores g c = λ bytes told. c.in-Ok.ensures.stores bytes (c.in_ok-log.ensures.opened bytes told).1

pub returns-in-Err-clause-wrong : goal.returns-in-Err-clause-wrong
returns-in-Err-clause-wrong g c =
    let setup = c.args.setup in
    opened_wrong (record { users = setup.users; writers = setup.workers }) (g.J.Logs.told c.args.logs.now c.args.name.now) _ _ nothing c.in-Err.fault
    c.in_ok-log.ensures.opened c.in-Err.ensures.wrong
