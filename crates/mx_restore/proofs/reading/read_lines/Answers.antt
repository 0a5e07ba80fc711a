use Rattle.mx_restore.proofs.Batches.{read_none, read_one_more}
use Rattle.mx_restore.proofs.reading.read_lines.Goals as goal

pub lines-init : goal.lines-init
lines-init c = read_none c.args.bytes.now c.args.lines.now.items

pub lines-preserved : goal.lines-preserved
lines-preserved c = read_one_more c.args.bytes.now c.lines.rest.now c.in-Ok.behind.now c.args.lines.now.items c.lines.lines.items c.read_first.new.lines.items c.lines.invariant c.in-Ok.ensures.read
