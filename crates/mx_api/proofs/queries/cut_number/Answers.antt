use Rattle.std.proofs.Common.{◌+◌, ◌∙◌, drop, arith}
use Rattle.std.proofs.lemmas.Grind.{common_steps}
use Rattle.mx_api.proofs.Spelled.{one_more}
use Rattle.mx_api.proofs.queries.cut_number.Goals as goal

pub digits-preserved : goal.digits-preserved
digits-preserved c =
    one_more c.args.most c.digits.number _ c.saturating_mul.result c.from-value.result c.saturating_add-number.result
    (drop (c.digits.digit-index + 1) c.args.digits.now) c.args.digits.now c.digits.digit-index c.ranges.most.fits
    (grind (arith, common_steps, c.digits-test.true)) c.saturating_mul.ensures (c.from-value.ensures ∙ c.saturating_sub.ensures)
    c.saturating_add-number.ensures c.digits.invariant
