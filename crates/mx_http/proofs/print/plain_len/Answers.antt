use Rattle.std.proofs.Common.{arith, get_or}
use Rattle.std.proofs.lemmas.List.{take_more}
use Rattle.mx_http.proofs.Compact.{run_more}
use Rattle.mx_http.proofs.print.plain_len.Goals as goal

pub loop-i-preserved : goal.loop-i-preserved
loop-i-preserved c =
    run_more c.args.bytes.now c.loop-i.i (get_or c.args.bytes.now c.loop-i.i 0) (take_more c.args.bytes.now c.loop-i.i 0 (omega arith)) c.loop-i.invariant
    (c.is_escaped.ensures c.if-is_escaped.false)
