-- What a call that reads a room asks, or the first refusal.
use Rattle.std.specs.Prelude.{ℕ, List}
use Rattle.mx_ids.specs.declared.users.Users.{Users}
use Rattle.mx_http.specs.declared.call.Call.{Call}
use Rattle.mx_ask.specs.declared.ask.Ask.TheVariants as ask
use Rattle.mx_api.specs.Calls.{request}
use Rattle.mx_api.specs.Endpoints.{asked_at}
use Rattle.mx_api.specs.declared.asked.Asked.{Asked}
use Rattle.mx_api.specs.declared.authenticated.Authenticated.{Authenticated}
use Rattle.mx_api_reads.specs.Markers.{read_markers_asked, receipt_asked}
use Rattle.mx_api_reads.specs.Messages.{messages_asked}
use Rattle.mx_api_reads.specs.Reads.{event_asked, members_asked, state_asked}
use Rattle.mx_api_reads.specs.Routes.{has_method, table}
use Rattle.mx_api_reads.specs.declared.route.Route.{Route}
use Rattle.mx_api_reads.specs.declared.route.Route.TheVariants as route

-- on a route, by the method and the body
abbrev pub route_asked : Route → List ℕ → List ℕ → Authenticated → Asked
route_asked route.JoinedRooms method body call = request call.who ask.JoinedRooms
route_asked route.State method body call = state_asked call
route_asked route.Members method body call = members_asked call
route_asked route.Event method body call = event_asked call
route_asked route.Messages method body call = messages_asked call
route_asked route.Receipt method body call = receipt_asked call body
route_asked route.ReadMarkers method body call = read_markers_asked call body

-- what a call asks by the route that its path finds, or the first refusal
unfoldable pub read_asked : Users → Call → Asked
read_asked users call = asked_at has_method route_asked table users call
