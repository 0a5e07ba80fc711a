use Rattle.std.proofs.Common.{◌≡◌, drop}
use Rattle.mx_http.specs.Queries.{parameter}
use Rattle.mx_http.proofs.parameters.parameter.Given as goal

abbrev pub invariant-pairs : goal.invariant-pairs
invariant-pairs l = parameter l.name (drop l.own-index l.pairs) ≡ parameter l.name l.pairs
