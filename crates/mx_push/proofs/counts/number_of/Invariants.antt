use Rattle.std.proofs.Common.{◌≡◌, length}
use Rattle.mx_push.specs.Conditions.{number_from, number_of}
use Rattle.mx_push.proofs.counts.number_of.Given as goal

abbrev pub decreases-digits : goal.decreases-digits
decreases-digits l = length l.rest

abbrev pub invariant-digits : goal.invariant-digits
invariant-digits l = number_from l.number l.rest ≡ number_of l.digits
