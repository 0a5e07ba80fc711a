use Rattle.mx_pool.specs.declared.status.JournalFault.TheVariants as lacks
use Rattle.mx_pool.specs.declared.status.Status.TheVariants as status
use Rattle.mx_pool.proofs.Journaled.{unmade_by}
use Rattle.mx_pool.proofs.kept.tell_unrestored.Goals as goal

pub returns-in-Busy-clause-told : goal.returns-in-Busy-clause-told
returns-in-Busy-clause-told g c =
    let done = c.tell_about in
    unmade_by c.args.name.now c.args.name.now (g.E.Sink.written c.args.errors.now) (g.E.Sink.written done.new.errors) (g.E.Sink.faults c.args.errors.now) (g.E.Sink.faults done.new.errors)
    (status.Journal lacks.Busy) done.result done.ensures.status (λ h. h) done.ensures.told

pub returns-in-Failed-clause-told : goal.returns-in-Failed-clause-told
returns-in-Failed-clause-told g c =
    let done = c.tell_about-in-Failed in
    unmade_by c.args.name.now c.args.name.now (g.E.Sink.written c.args.errors.now) (g.E.Sink.written done.new.errors) (g.E.Sink.faults c.args.errors.now) (g.E.Sink.faults done.new.errors)
    (status.Journal lacks.Failed) done.result done.ensures.status (λ h. h) done.ensures.told

pub returns-in-Line-clause-told : goal.returns-in-Line-clause-told
returns-in-Line-clause-told g c =
    let done = c.tell_about-in-Line in
    unmade_by c.args.name.now c.words.result.now (g.E.Sink.written c.args.errors.now) (g.E.Sink.written done.new.errors) (g.E.Sink.faults c.args.errors.now) (g.E.Sink.faults done.new.errors)
    (status.Journal (lacks.Line c.in-Line.number)) done.result done.ensures.status (λ h. (c.words.result.now, h)) done.ensures.told

pub returns-in-Memory-clause-told : goal.returns-in-Memory-clause-told
returns-in-Memory-clause-told g c =
    let done = c.tell_about-in-Memory in
    unmade_by c.args.name.now c.args.name.now (g.E.Sink.written c.args.errors.now) (g.E.Sink.written done.new.errors) (g.E.Sink.faults c.args.errors.now) (g.E.Sink.faults done.new.errors)
    (status.Memory c.in-Memory.refused) done.result done.ensures.status (λ h. h) done.ensures.told

pub returns-in-Busy-clause-status : goal.returns-in-Busy-clause-status
returns-in-Busy-clause-status g c = rw c.in-Busy.is c.tell_about.ensures.status

pub returns-in-Failed-clause-status : goal.returns-in-Failed-clause-status
returns-in-Failed-clause-status g c = rw c.in-Failed.is c.tell_about-in-Failed.ensures.status

pub returns-in-Line-clause-status : goal.returns-in-Line-clause-status
returns-in-Line-clause-status g c = rw c.in-Line.is c.tell_about-in-Line.ensures.status

pub returns-in-Memory-clause-status : goal.returns-in-Memory-clause-status
returns-in-Memory-clause-status g c = rw c.in-Memory.is c.tell_about-in-Memory.ensures.status
