use Rattle.std.proofs.Common.{◌≡◌, length}
use Rattle.mx_http.specs.Target.{behind_token}
use Rattle.mx_http.proofs.target.skip_token.Given as goal

abbrev pub invariant-loop-rest : goal.invariant-loop-rest
invariant-loop-rest l = behind_token l.rest ≡ behind_token l.bytes

abbrev pub decreases-loop-rest : goal.decreases-loop-rest
decreases-loop-rest l = length l.rest
