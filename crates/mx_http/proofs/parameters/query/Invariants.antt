use Rattle.std.proofs.Common.{◌≡◌, ◌++◌}
use Rattle.std.specs.Prelude.{map}
use Rattle.form_urlencoded.specs.Parse.{owned_pairs_left}
use Rattle.mx_http.specs.Queries.{query_of, parameters, decoded}
use Rattle.mx_http.proofs.parameters.query.Given as goal

abbrev pub invariant-loop-pair : goal.invariant-loop-pair
invariant-loop-pair l = l.pairs ++ map decoded (owned_pairs_left l.pair-iterator) ≡ parameters (query_of l.target)
