use Rattle.std.proofs.Common.{◌+◌}
use Rattle.std.proofs.lemmas.Result.{err_from_is_err_and}
use Rattle.mx_http.proofs.Pieces.{bytes_from, pieces_left}
use Rattle.mx_http.proofs.Stages.{leaves_less, leaves_stop}
use Rattle.mx_http.proofs.stage.put_all.Goals as goal

pub returns-in_err-put : goal.returns-in_err-put
returns-in_err-put g c =
    let failed = err_from_is_err_and c.from_residual.result c.from_residual.ensures.1 in
    let pieces = c.args.pieces.now in
    let i = c.pieces.piece-index in
    rw failed.1 (leaves_stop _ _ _ _ _ (bytes_from (i + 1) pieces) _ c.pieces.invariant c.in_err-put.ensures (pieces_left pieces i _ c.pieces-test.true))

pub pieces-preserved : goal.pieces-preserved
pieces-preserved g c =
    let pieces = c.args.pieces.now in
    let i = c.pieces.piece-index in
    leaves_less _ _ _ _ _ (bytes_from (i + 1) pieces) _ c.pieces.invariant c.in_ok-put.ensures (pieces_left pieces i _ c.pieces-test.true)
