use Rattle.std.proofs.Common.{◌≡◌, drop}
use Rattle.mx_api.specs.Queries.{wrong_named}
use Rattle.mx_api.proofs.queries.wrong_named.Given as goal

abbrev pub invariant-judged : goal.invariant-judged
invariant-judged l = wrong_named (drop l.parameter-index l.judged) l.name ≡ wrong_named l.judged l.name
