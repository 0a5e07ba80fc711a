-- The paths of the routes stand beside each other.
use Rattle.std.proofs.Common.{◌≡◌, true, refl}
use Rattle.matchit.specs.Route.{scan}
use Rattle.mx_api.specs.Routing.{are_apart}
use Rattle.mx_api_reads.specs.Routes.{path_of, routes}

pub routes_apart : are_apart path_of routes ≡ true
unfolding scan
routes_apart = refl
