use Rattle.std.proofs.Common.{◌≡◌, ◌+◌, ◌∷◌, Err, drop, sym, ap, subst, ◌∙◌, arith}
use Rattle.std.proofs.lemmas.Grind.{common_steps}
use Rattle.matchit.specs.Route.{parse_route}
use Rattle.matchit.specs.Router.{InsertsRead}
use Rattle.mx_api.specs.Routing.{are_apart_from}
use Rattle.mx_api.proofs.Apart.{refused_apart}
use Rattle.mx_api.specs.declared.routing.TableFault.TheVariants as faults
use Rattle.mx_api.proofs.routing.router_of.Goals as goal

pub returns-in-Err : goal.returns-in-Err
returns-in-Err g c =
    let l = c.endpoints in
    let path = g.E.Endpoint.path in
    let route = c.endpoint-item.result in
    let rest = drop (l.endpoint-index + 1) c.args.endpoints.now in
    let next : drop l.endpoint-index c.args.endpoints.now ≡ route ∷ rest = grind (arith, common_steps, c.endpoint-item.is, c.endpoints-test.true) in
    let said : InsertsRead (parse_route (path route)) route l.router c.insert.new.self (Err c.in-Err.error) =
    subst (λ r. InsertsRead (parse_route (path route)) route l.router c.insert.new.self r) c.in-Err.is (subst (λ p. InsertsRead (parse_route p) route l.router c.insert.new.self c.insert.result) c.path.ensures c.insert.ensures) in
    record {
      table = tt;
      conflict = λ is. let at : c.table_fault.result ≡ faults.Conflict = cc in sym l.invariant.1 ∙ ap (are_apart_from path l.router) next ∙ refused_apart path l.router c.insert.new.self route rest c.in-Err.error said (c.table_fault.ensures at);
    }
