use Rattle.mx_lines.proofs.Eights.{of_bytes}
use Rattle.mx_lines.proofs.sums.sum_eight.Goals as goal

pub returns-clause-sum : goal.returns-clause-sum
returns-clause-sum c = of_bytes c.args.sum c.args.bytes.now c.told-bytes _ _ _ _ _ _ _ _ c.from.ensures c.from-2.ensures c.from-3.ensures c.from-4.ensures c.from-5.ensures c.from-6.ensures c.from-7.ensures c.from-8.ensures
