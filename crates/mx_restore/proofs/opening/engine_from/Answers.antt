use Rattle.std.proofs.Common.{refl, subst, sym}
use Rattle.mx_engine.specs.Places.{IsAlone}
use Rattle.mx_engine.specs.Shown.{stores_of}
use Rattle.mx_fold.specs.Lists.{Histories}
use Rattle.mx_restore.specs.Restored.{HasRestored}
use Rattle.mx_restore.proofs.opening.engine_from.Goals as goal

pub returns-in-Ok-clause-stores : goal.returns-in-Ok-clause-stores
returns-in-Ok-clause-stores g c = λ bytes told.
    subst (λ (h : Histories). HasRestored bytes h (stores_of c.make_stores.new.pass)) c.in_ok-engine.ensures.nothing (c.in-Ok.ensures.stores bytes told)

pub returns-in-Ok-clause-alone : goal.returns-in-Ok-clause-alone
returns-in-Ok-clause-alone g c = c.make_stores.ensures.alone (subst IsAlone (sym c.in_ok-engine.ensures.made) (record { events = refl; receipts = refl; accounts = refl }))
