use Rattle.std.proofs.Common.{◌≡◌, take, drop}
use Rattle.mx_api.specs.Routing.{are_apart, are_apart_from, rows_of}
use Rattle.mx_api.proofs.routing.router_of.Given as goal

abbrev pub invariant-endpoints : goal.invariant-endpoints
invariant-endpoints g l = (l.router ≡ rows_of g.E.Endpoint.path (take l.endpoint-index l.endpoints))
    × (are_apart_from g.E.Endpoint.path l.router (drop l.endpoint-index l.endpoints) ≡ are_apart g.E.Endpoint.path l.endpoints)
