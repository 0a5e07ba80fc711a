use Rattle.std.proofs.Common.{List, [], refl, sym, subst, ◌∙◌, arith}
use Rattle.mx_restore.specs.Batches.{HasReadMore, StopsAt}
use Rattle.mx_restore.specs.declared.reading.ReadLine.{ReadLine}
use Rattle.mx_restore.proofs.Batches.{more_all, more_none}
use Rattle.mx_restore.proofs.reading.read_batch.Goals as goal

pub takes-init : goal.takes-init
takes-init g c =
    let left = g.S.LogFile.left c.args.log.now in
    let rest = c.args.rest.now.items in
    (subst (λ (ls : List ReadLine). HasReadMore left left rest rest [] ls) (sym c.new-lines.ensures.items) (more_none left rest []), c.requires.rest_open, refl, omega arith)

pub returns-then-not-is_open-clause-read : goal.returns-then-not-is_open-clause-read
returns-then-not-is_open-clause-read g c =
    let l = c.takes in
    more_all (g.S.LogFile.left c.args.log.now) (g.S.LogFile.left l.log) (g.S.LogFile.left c.read_more-stopped.new.log) c.args.rest.now.items l.rest.items c.read_more-stopped.new.rest.items [] l.lines.items c.read_more-stopped.new.lines.items
    l.invariant.0 c.read_more-stopped.ensures.read

pub returns-then-not-is_open-clause-told : goal.returns-then-not-is_open-clause-told
returns-then-not-is_open-clause-told g c = c.read_more-stopped.ensures.told ∙ c.takes.invariant.2

pub returns-then-not-is_open-clause-count : goal.returns-then-not-is_open-clause-count
returns-then-not-is_open-clause-count g c = omega (arith, c.read_more-stopped.ensures.count, c.takes.invariant.3)

pub returns-then-not-is_open-clause-cause : goal.returns-then-not-is_open-clause-cause
returns-then-not-is_open-clause-cause g c = λ failed. omega (arith, c.read_more-stopped.ensures.cause failed, c.takes.invariant.3)

pub takes-preserved : goal.takes-preserved
takes-preserved g c =
    let l = c.takes in
    let more = c.read_more-stopped in (
      more_all (g.S.LogFile.left c.args.log.now) (g.S.LogFile.left l.log) (g.S.LogFile.left more.new.log) c.args.rest.now.items l.rest.items more.new.rest.items [] l.lines.items more.new.lines.items l.invariant.0 more.ensures.read,
      subst (λ s. StopsAt s more.new.rest.items) (c.is_open.ensures.open c.if-not-is_open.false) more.ensures.stops,
      more.ensures.told ∙ l.invariant.2,
      omega (arith, more.ensures.count, l.invariant.3),
    )
