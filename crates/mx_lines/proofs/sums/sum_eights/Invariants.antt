use Rattle.std.proofs.Common.{◌≡◌, ◌<◌, length}
use Rattle.mx_lines.specs.Lines.{sum_from, sum_of}
use Rattle.mx_lines.proofs.sums.sum_eights.Given as goal

abbrev pub invariant-eights : goal.invariant-eights
invariant-eights l = (sum_from l.sum l.left ≡ sum_of l.bytes) × (l.sum < 4294967291)

abbrev pub decreases-eights : goal.decreases-eights
decreases-eights l = length l.left
