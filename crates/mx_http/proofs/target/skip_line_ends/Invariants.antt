use Rattle.std.proofs.Common.{◌≡◌, length, false}
use Rattle.mx_http.specs.Target.{behind_lines}
use Rattle.mx_http.proofs.target.skip_line_ends.Given as goal

abbrev pub invariant-loop-rest : goal.invariant-loop-rest
invariant-loop-rest l = behind_lines false l.rest ≡ behind_lines false l.bytes

abbrev pub decreases-loop-rest : goal.decreases-loop-rest
decreases-loop-rest l = length l.rest
