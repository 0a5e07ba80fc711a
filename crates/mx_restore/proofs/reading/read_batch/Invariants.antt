use Rattle.std.proofs.Common.{◌≡◌, ◌≤◌, []}
use Rattle.mx_lines.specs.Lines.{IsOpen}
use Rattle.mx_restore.specs.Batches.{HasReadMore}
use Rattle.mx_restore.proofs.reading.read_batch.Given as goal

abbrev pub invariant-takes : goal.invariant-takes
invariant-takes g l =
    HasReadMore (g.S.LogFile.left l.fn.log) (g.S.LogFile.left l.log) l.fn.rest.items l.rest.items [] l.lines.items × IsOpen l.rest.items
    × (g.S.Log.told l.log ≡ g.S.Log.told l.fn.log) × (g.S.Log.faults l.fn.log ≤ g.S.Log.faults l.log)
