use Rattle.std.proofs.Common.{refl, []}
use Rattle.std.proofs.lemmas.Result.{err_from_is_err_and}
use Rattle.mx_http.specs.Stages.{state_of}
use Rattle.mx_http.proofs.Stages.{stops_early, handed}
use Rattle.mx_http.proofs.stage.put.Goals as goal

pub returns-in_err-flush : goal.returns-in_err-flush
returns-in_err-flush g c =
    let failed = err_from_is_err_and c.from_residual.result c.from_residual.ensures.1 in
    rw failed.1 (stops_early _ _ [] c.args.bytes.now _ c.in_err-flush.ensures.bytes refl)

pub returns : goal.returns
returns g c =
    handed (state_of g.K.Sink.written g.K.Sink.faults c.args.sink.now c.args.stage.now)
    (state_of g.K.Sink.written g.K.Sink.faults c.flush.new.sink c.flush.new.stage)
    (state_of g.K.Sink.written g.K.Sink.faults c.hand_on.new.sink c.flush.new.stage) c.hand_on.result c.args.bytes.now
    c.in_ok-flush.ensures.bytes c.in_ok-flush.ensures.empty c.in_ok-flush.ensures.empty c.hand_on.ensures
