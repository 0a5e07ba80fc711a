use Rattle.std.proofs.Common.{ℕ, List, [], subst, ◌∙◌, arith}
use Rattle.std.proofs.lemmas.Result.{err_from_is_err_and}
use Rattle.mx_engine.specs.Shown.{site_of, stores_of}
use Rattle.mx_restore.specs.Batches.{HasReadMore, StopsAt}
use Rattle.mx_restore.proofs.Taking.{ended_counts, ended_for, ended_restores, far_begun, far_made, far_read}
use Rattle.mx_restore.proofs.Wrongs.{ahead_unmade, ended_wrong}
use Rattle.mx_restore.proofs.restoring.restore.Goals as goal

pub batches-init : goal.batches-init
batches-init g c =
    let users = (site_of c.args.to.now.engine.now).users in
    let lists = stores_of c.args.pass.now in
    let told = g.S.LogFile.left c.args.log.now in
    let next = g.S.LogFile.left c.read_batch-batch.new.log in
    let first = c.read_batch-batch in (
      tt,
      tt,
      c.requires.ties,
      far_read users told told next [] first.new.rest.items first.result.lines.items _ lists lists (far_begun users told lists)
          (subst (λ (b : List ℕ). HasReadMore told next b first.new.rest.items [] first.result.lines.items) c.new-rest.ensures.items first.ensures.read),
      first.ensures.stops,
      first.ensures.end,
      first.ensures.cause,
      first.ensures.told,
      first.ensures.count,
      λ alone. alone,
    )

pub make_lines-requires : goal.make_lines-requires
make_lines-requires g c = record { ties = c.batches.invariant.2 }

pub returns-in_err-make_lines-clause-told : goal.returns-in_err-make_lines-clause-told
returns-in_err-make_lines-clause-told g c = c.batches.invariant.7

pub returns-in_err-make_lines-clause-count : goal.returns-in_err-make_lines-clause-count
returns-in_err-make_lines-clause-count g c = c.batches.invariant.8

pub returns-in_err-make_lines-clause-alone : goal.returns-in_err-make_lines-clause-alone
returns-in_err-make_lines-clause-alone g c = λ alone. c.make_lines.ensures.alone (c.batches.invariant.9 alone)

pub returns-then-not-is_open-clause-alone : goal.returns-then-not-is_open-clause-alone
returns-then-not-is_open-clause-alone g c = λ alone. c.make_lines.ensures.alone (c.batches.invariant.9 alone)

pub returns-in_err-batch-clause-alone : goal.returns-in_err-batch-clause-alone
returns-in_err-batch-clause-alone g c = λ alone. c.make_and_read.ensures.alone (c.batches.invariant.9 alone)

pub returns-then-not-is_open-clause-restored : goal.returns-then-not-is_open-clause-restored
returns-then-not-is_open-clause-restored g c =
    let users = (site_of c.args.to.now.engine.now).users in
    let l = c.batches in
    let told = g.S.LogFile.left c.args.log.now in
    let left = g.S.LogFile.left l.log in
    let old = stores_of c.args.pass.now in
    let new = stores_of c.make_lines.new.pass in
    let done = far_made users told left l.batch.lines.items l.rest.items l.far c.make_lines.new.far old (stores_of l.pass) new l.invariant.3 c.in_ok-make_lines.ensures.made in
    ended_restores users told left l.rest.items c.make_lines.new.far old new l.batch.stopped c.ended.result c.ended.ensures done l.invariant.4 l.invariant.5 (c.is_open.ensures.other c.if-not-is_open.true)

pub returns-then-not-is_open-clause-whole : goal.returns-then-not-is_open-clause-whole
returns-then-not-is_open-clause-whole g c =
    let users = (site_of c.args.to.now.engine.now).users in
    let l = c.batches in
    let told = g.S.LogFile.left c.args.log.now in
    let left = g.S.LogFile.left l.log in
    let old = stores_of c.args.pass.now in
    let new = stores_of c.make_lines.new.pass in
    let done = far_made users told left l.batch.lines.items l.rest.items l.far c.make_lines.new.far old (stores_of l.pass) new l.invariant.3 c.in_ok-make_lines.ensures.made in
    ended_counts users told left l.rest.items c.make_lines.new.far old new l.batch.stopped c.ended.result c.ended.ensures done l.invariant.4 l.invariant.5 (c.is_open.ensures.other c.if-not-is_open.true)

pub returns-then-not-is_open-clause-told : goal.returns-then-not-is_open-clause-told
returns-then-not-is_open-clause-told g c = c.batches.invariant.7

pub returns-then-not-is_open-clause-count : goal.returns-then-not-is_open-clause-count
returns-then-not-is_open-clause-count g c = c.batches.invariant.8

pub returns-then-not-is_open-clause-cause : goal.returns-then-not-is_open-clause-cause
returns-then-not-is_open-clause-cause g c =
    ended_for c.make_lines.new.far c.batches.batch.stopped (g.S.Log.faults c.args.log.now) (g.S.Log.faults c.batches.log) c.ended.result c.ended.ensures c.batches.invariant.6

pub make_and_read-requires-clause-ties : goal.make_and_read-requires-clause-ties
make_and_read-requires-clause-ties g c κs within = c.batches.invariant.2

pub make_and_read-requires-clause-rest_open : goal.make_and_read-requires-clause-rest_open
make_and_read-requires-clause-rest_open g c κs within = subst (λ s. StopsAt s c.batches.rest.items) (c.is_open.ensures.open c.if-not-is_open.false) c.batches.invariant.4

pub returns-in_err-batch-clause-told : goal.returns-in_err-batch-clause-told
returns-in_err-batch-clause-told g c = c.make_and_read.ensures.told ∙ c.batches.invariant.7

pub returns-in_err-batch-clause-count : goal.returns-in_err-batch-clause-count
returns-in_err-batch-clause-count g c = omega (arith, c.make_and_read.ensures.count, c.batches.invariant.8)

pub batches-preserved : goal.batches-preserved
batches-preserved g c =
    let users = (site_of c.args.to.now.engine.now).users in
    let l = c.batches in
    let told = g.S.LogFile.left c.args.log.now in
    let left = g.S.LogFile.left l.log in
    let next = g.S.LogFile.left c.make_and_read.new.log in
    let old = stores_of c.args.pass.now in
    let new = stores_of c.make_and_read.new.pass in
    let far = c.make_and_read.new.far in
    let read = c.in_ok-batch.ensures in
    let done = far_made users told left l.batch.lines.items l.rest.items l.far far old (stores_of l.pass) new l.invariant.3 read.made in (
      tt,
      tt,
      read.ties,
      far_read users told left next l.rest.items c.make_and_read.new.rest.items c.in_ok-batch.batch.lines.items far old new done read.read,
      read.stops,
      read.end,
      λ failed. omega (arith, read.cause failed, l.invariant.8),
      read.told ∙ l.invariant.7,
      omega (arith, read.count, l.invariant.8),
      λ alone. read.alone (l.invariant.9 alone),
    )

pub returns-in_err-make_lines-clause-wrong : goal.returns-in_err-make_lines-clause-wrong
returns-in_err-make_lines-clause-wrong g c =
    let l = c.batches in
    let told = g.S.LogFile.left c.args.log.now in
    let p = err_from_is_err_and c.from_residual.result c.from_residual.ensures.1 in
    rw (p.1, p.2) (ahead_unmade (site_of c.args.to.now.engine.now) told (g.S.LogFile.left l.log) l.batch.lines.items l.rest.items l.far (stores_of c.args.pass.now) (stores_of l.pass) c.in_err-make_lines.field-0.0
    l.invariant.3 c.in_err-make_lines.ensures.wrong)

pub returns-then-not-is_open-clause-wrong : goal.returns-then-not-is_open-clause-wrong
returns-then-not-is_open-clause-wrong g c =
    let l = c.batches in
    let site = site_of c.args.to.now.engine.now in
    let told = g.S.LogFile.left c.args.log.now in
    let left = g.S.LogFile.left l.log in
    let old = stores_of c.args.pass.now in
    let new = stores_of c.make_lines.new.pass in
    let done = far_made site.users told left l.batch.lines.items l.rest.items l.far c.make_lines.new.far old (stores_of l.pass) new l.invariant.3 c.in_ok-make_lines.ensures.made in
    ended_wrong site told left l.rest.items c.make_lines.new.far old new l.batch.stopped c.ended.result c.ended.ensures done l.invariant.4

pub returns-in_err-batch-clause-wrong : goal.returns-in_err-batch-clause-wrong
returns-in_err-batch-clause-wrong g c =
    let l = c.batches in
    let told = g.S.LogFile.left c.args.log.now in
    let p = err_from_is_err_and c.from_residual-in_err-batch.result c.from_residual-in_err-batch.ensures.1 in
    rw (p.1, p.2) (ahead_unmade (site_of c.args.to.now.engine.now) told (g.S.LogFile.left l.log) l.batch.lines.items l.rest.items l.far (stores_of c.args.pass.now) (stores_of l.pass) c.in_err-batch.field-0.0
    l.invariant.3 c.in_err-batch.ensures.wrong)
