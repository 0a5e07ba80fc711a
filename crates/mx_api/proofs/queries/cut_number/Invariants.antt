use Rattle.std.proofs.Common.{◌≡◌, drop, min}
use Rattle.mx_api.specs.Queries.{spelled}
use Rattle.mx_api.proofs.queries.cut_number.Given as goal

abbrev pub invariant-digits : goal.invariant-digits
invariant-digits l = min (spelled l.number (drop l.digit-index l.digits)) l.most ≡ min (spelled 0 l.digits) l.most
