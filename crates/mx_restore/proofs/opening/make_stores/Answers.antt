use Rattle.std.proofs.Common.{◌∙◌}
use Rattle.std.proofs.lemmas.Result.{err_from_is_err_and}
use Rattle.mx_engine.specs.Shown.{site_of, stores_of}
use Rattle.mx_restore.proofs.Wrongs.{of_log}
use Rattle.mx_restore.proofs.opening.make_stores.Goals as goal

pub returns-clause-kept : goal.returns-clause-kept
returns-clause-kept g c = λ log told left small.
    let whole = c.in_ok-far.ensures.whole log.bytes left small in
    let kept = c.in_ok-go_on.ensures.kept log (c.restore.ensures.told ∙ told) whole in
    (c.in_ok-far.far.bytes, whole, kept.0, kept.1)

pub returns-in_err-go_on-clause-wrong : goal.returns-in_err-go_on-clause-wrong
returns-in_err-go_on-clause-wrong g c =
    let p = err_from_is_err_and c.from_residual-in_err-go_on.result c.from_residual-in_err-go_on.ensures.1 in
    rw (p.1, p.2) (of_log (site_of c.args.engine.now) (g.L.LogFile.left c.args.log.now) (stores_of c.args.pass.now) c.in_err-go_on.field-0.0 c.in_err-go_on.ensures.fault)
