use Rattle.std.proofs.Common.{◌/◌, length}
use Rattle.std.proofs.lemmas.Result.{IfOk-weaker}
use Rattle.mx_lanes.proofs.Joined.{tail_fits, rest_fits, cut_full, cut_all, cut_tail}
use Rattle.mx_lanes.proofs.shelf.beginning.Goals as goal

pub cut-requires-clause-rest : goal.cut-requires-clause-rest
cut-requires-clause-rest g c = rest_fits c.args.full.now c.segment_at.result.now (c.args.front / 1024) c.args.front c.requires.full c.if-place-full.true c.segment_at.ensures

pub cut-requires-else-place-full-clause-rest : goal.cut-requires-else-place-full-clause-rest
cut-requires-else-place-full-clause-rest g c = tail_fits c.args.full.now c.args.tail.now c.args.front c.requires.full c.requires.front

pub returns-then-place-full-clause-full : goal.returns-then-place-full-clause-full
returns-then-place-full-clause-full g c = IfOk-weaker c.cut.result _ _ (λ p h. cut_all c.args.full.now p (c.args.front / 1024) c.requires.full h.0) c.cut.ensures

pub returns-then-place-full-clause-items : goal.returns-then-place-full-clause-items
returns-then-place-full-clause-items g c = IfOk-weaker c.cut.result _ _ (λ p h. cut_full c.args.full.now c.args.tail.now c.segment_at.result.now c.args.front p c.requires.full c.if-place-full.true c.segment_at.ensures h) c.cut.ensures

pub returns-else-place-full-clause-full : goal.returns-else-place-full-clause-full
returns-else-place-full-clause-full g c = IfOk-weaker c.cut-else-place-full.result _ _ (λ p h. cut_all c.args.full.now p (length c.args.full.now) c.requires.full h.0) c.cut-else-place-full.ensures

pub returns-else-place-full-clause-items : goal.returns-else-place-full-clause-items
returns-else-place-full-clause-items g c = IfOk-weaker c.cut-else-place-full.result _ _ (λ p h. cut_tail c.args.full.now c.args.tail.now c.args.front p c.requires.full c.if-place-full.false h) c.cut-else-place-full.ensures
