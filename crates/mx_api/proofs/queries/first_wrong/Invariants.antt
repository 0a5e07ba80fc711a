use Rattle.std.proofs.Common.{◌≡◌, drop}
use Rattle.mx_api.specs.Queries.{first_wrong}
use Rattle.mx_api.proofs.queries.first_wrong.Given as goal

abbrev pub invariant-pairs : goal.invariant-pairs
invariant-pairs l = first_wrong l.judged (drop l.name-index l.query) ≡ first_wrong l.judged l.query
