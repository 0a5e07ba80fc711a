use Rattle.mx_engine.specs.Places.{IsAlone}
use Rattle.mx_engine.specs.Shown.{Ties, made_of, site_of, stores_of}
use Rattle.mx_fold.specs.Lists.{Histories}
use Rattle.mx_restore.specs.Made.{MakesLines}
use Rattle.mx_restore.specs.Wrongs.{IsUnmade}
use Rattle.mx_restore.specs.declared.restoring.Restored.{Restored}
use Rattle.mx_restore.specs.declared.wrong.RestoreFault.{RestoreFault}
use Rattle.mx_restore.proofs.restoring.Restoring.make_lines.Given as goal

abbrev pub invariant-lines : goal.invariant-lines
invariant-lines g l =
    Ties l.self.engine.now l.pass
    × ((after : Restored) (new : Histories) → MakesLines (site_of l.self.engine.now).users l.line-iterator.rest.items l.far after (stores_of l.pass) new
    → MakesLines (site_of l.self.engine.now).users l.fn.lines.items l.fn.far after (stores_of l.fn.pass) new)
    × ((f : RestoreFault) → IsUnmade (site_of l.self.engine.now) l.line-iterator.rest.items l.far (stores_of l.pass) f → IsUnmade (site_of l.self.engine.now) l.fn.lines.items l.fn.far (stores_of l.fn.pass) f)
    × (IsAlone (made_of l.fn.pass) → IsAlone (made_of l.pass))
