use Rattle.std.proofs.Common.{◌∙◌, sym, arith}
use Rattle.mx_snapshot.proofs.Halving.{all_later, at_end, stride_cost, stride_found, strides_on}
use Rattle.mx_snapshot.proofs.positions.last_stride.Goals as goal

pub strides-init : goal.strides-init
strides-init c = at_end c.args.positions.now c.args.last c.args.steps.now

pub strides-preserved : goal.strides-preserved
strides-preserved c =
    strides_on c.args.positions.now c.args.last c.strides.high c.args.steps.now c.strides.steps c.is_upto.new.self c.saturating_sub-at.result c.strides.invariant c.requires c.strides-test.true c.saturating_sub-at.ensures
    (sym c.is_upto.ensures.upto ∙ c.if-is_upto.false) c.is_upto.ensures.more (omega (arith, c.is_upto.ensures.counted))

pub returns-then-is_upto-clause-between : goal.returns-then-is_upto-clause-between
returns-then-is_upto-clause-between c =
    stride_found c.args.positions.now c.args.last c.strides.high c.args.steps.now c.strides.steps c.saturating_sub-at.result c.strides.invariant c.requires c.strides-test.true c.saturating_sub-at.ensures (sym c.is_upto.ensures.upto ∙ c.if-is_upto.true)

pub returns-then-is_upto-clause-cost : goal.returns-then-is_upto-clause-cost
returns-then-is_upto-clause-cost c =
    stride_cost c.args.positions.now c.args.last c.strides.high c.args.steps.now c.strides.steps c.is_upto.new.self c.strides.invariant c.strides-test.true c.is_upto.ensures.more (omega (arith, c.is_upto.ensures.counted))

pub returns-clause-between : goal.returns-clause-between
returns-clause-between c = all_later c.args.positions.now c.args.last c.strides.high c.args.steps.now c.strides.steps c.strides.invariant c.strides-test.false

pub returns-clause-cost : goal.returns-clause-cost
returns-clause-cost c = omega (arith, c.strides.invariant.least)
