use Rattle.std.proofs.Common.{length}
use Rattle.mx_restore.specs.Batches.{HasRead}
use Rattle.mx_restore.proofs.reading.read_lines.Given as goal

abbrev pub invariant-lines : goal.invariant-lines
invariant-lines l = HasRead l.bytes l.rest l.fn.lines.items l.lines.items

abbrev pub decreases-lines : goal.decreases-lines
decreases-lines l = length l.rest
