use Rattle.std.proofs.Common.{◌∙◌, sym, refl, arith}
use Rattle.mx_snapshot.proofs.Halving.{begun, closed, found_cost, lower, upper}
use Rattle.mx_snapshot.proofs.positions.halve.Goals as goal

pub halves-init : goal.halves-init
halves-init c = begun c.args.positions.now c.args.last c.args.from c.args.end c.args.steps.now c.requires.between

pub halves-preserved-then-is_upto : goal.halves-preserved-then-is_upto
halves-preserved-then-is_upto c =
    upper c.args.positions.now c.args.last c.args.from c.args.end c.halves.low c.halves.high c.args.steps.now c.halves.steps c.is_upto.new.self _ c.halves.invariant c.requires.sorted c.halves-test.true refl
    (sym c.is_upto.ensures.upto ∙ c.if-is_upto.true) c.is_upto.ensures.more (omega (arith, c.is_upto.ensures.counted))

pub halves-preserved : goal.halves-preserved
halves-preserved c =
    lower c.args.positions.now c.args.last c.args.from c.args.end c.halves.low c.halves.high c.args.steps.now c.halves.steps c.is_upto.new.self _ c.halves.invariant c.requires.sorted c.halves-test.true refl
    (sym c.is_upto.ensures.upto ∙ c.if-is_upto.false) c.is_upto.ensures.more (omega (arith, c.is_upto.ensures.counted))

pub returns-clause-found : goal.returns-clause-found
returns-clause-found c = closed c.args.positions.now c.args.last c.halves.low c.halves.high c.halves.invariant.between c.halves-test.false

pub returns-clause-cost : goal.returns-clause-cost
returns-clause-cost c = found_cost c.args.positions.now c.args.last c.args.from c.args.end c.halves.low c.halves.high c.args.steps.now c.halves.steps c.halves.invariant
