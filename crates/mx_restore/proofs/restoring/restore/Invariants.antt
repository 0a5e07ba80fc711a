use Rattle.std.proofs.Common.{◌≡◌, ◌≤◌}
use Rattle.std.specs.Io.KnownBytes.{IsAtEnd}
use Rattle.mx_engine.specs.Places.{IsAlone}
use Rattle.mx_engine.specs.Shown.{Ties, made_of, site_of, stores_of}
use Rattle.mx_outside.specs.Causes.{Rose}
use Rattle.mx_restore.specs.Batches.{StopsAt}
use Rattle.mx_restore.specs.Made.{IsAhead}
use Rattle.mx_restore.specs.declared.reading.Stopped.TheVariants as stop
use Rattle.mx_restore.proofs.restoring.restore.Given as goal

abbrev pub invariant-batches : goal.invariant-batches
invariant-batches g l =
    (goal.iterator-batches g).can_next l.iterator' × (goal.iterator-batches g).is_finite l.iterator' × Ties l.to.engine.now l.pass
    × IsAhead (site_of l.to.engine.now).users (g.S.LogFile.left l.fn.log) (g.S.LogFile.left l.log) l.batch.lines.items l.rest.items l.far (stores_of l.fn.pass) (stores_of l.pass)
    × StopsAt l.batch.stopped l.rest.items × (l.batch.stopped ≡ stop.End → IsAtEnd (g.S.LogFile.left l.log))
    × (l.batch.stopped ≡ stop.Failed → Rose (g.S.Log.faults l.fn.log) (g.S.Log.faults l.log))
    × (g.S.Log.told l.log ≡ g.S.Log.told l.fn.log) × (g.S.Log.faults l.fn.log ≤ g.S.Log.faults l.log) × (IsAlone (made_of l.fn.pass) → IsAlone (made_of l.pass))
