-- What a call on a room asks, or the first refusal.
use Rattle.std.specs.Prelude.{ℕ, List, Option, Some, None}
use Rattle.mx_ids.specs.declared.users.Users.{Users}
use Rattle.mx_json.specs.declared.value.Json.{Json}
use Rattle.mx_http.specs.declared.call.Call.{Call}
use Rattle.mx_create.specs.Bodies.{wrong_field}
use Rattle.mx_create.specs.declared.body.BodyField.{BodyField}
use Rattle.mx_ask.specs.declared.ask.Ask.TheVariants as ask
use Rattle.mx_ask.specs.declared.ask.Who.{Who}
use Rattle.mx_api.specs.Bodies.{posted}
use Rattle.mx_api.specs.Calls.{asked_by, request}
use Rattle.mx_api.specs.Endpoints.{asked_at}
use Rattle.mx_api.specs.Parts.{one_part, room_of}
use Rattle.mx_api.specs.declared.asked.Asked.{Asked}
use Rattle.mx_api.specs.declared.asked.Asked.TheVariants as asked
use Rattle.mx_api.specs.declared.authenticated.Authenticated.{Authenticated}
use Rattle.mx_api.specs.declared.refused.Field.TheVariants as field
use Rattle.mx_api.specs.declared.refused.Refused.TheVariants as refused
use Rattle.mx_api_room.specs.Events.{redact_asked, send_asked, state_asked, state_at_key_asked}
use Rattle.mx_api_room.specs.Membership.{change_asked, own_asked}
use Rattle.mx_api_room.specs.Routes.{has_method, table}
use Rattle.mx_api_room.specs.declared.membership.Change.TheVariants as change
use Rattle.mx_api_room.specs.declared.membership.OwnChange.TheVariants as own
use Rattle.mx_api_room.specs.declared.route.Route.{Route}
use Rattle.mx_api_room.specs.declared.route.Route.TheVariants as route

abbrev pub creation_by : Who → Json → Option BodyField → Asked
creation_by who body None = request who (ask.CreateRoom body)
creation_by who body (Some wrong) = asked.Refused (refused.BadShape (field.Creation wrong))

abbrev pub creation_asked : Who → Json → Asked
creation_asked who body = creation_by who body (wrong_field body)

-- POST /createRoom (Client-Server API, Creation)
unfoldable pub create_asked : Authenticated → List ℕ → Asked
create_asked call body = asked_by (creation_asked call.who) (posted body)

-- on a route, by the method and the body
abbrev pub route_asked : Route → List ℕ → List ℕ → Authenticated → Asked
route_asked route.CreateRoom method body call = create_asked call body
route_asked route.Send method body call = send_asked call body
route_asked route.StateAtKey method body call = state_at_key_asked method call body
route_asked route.StateAtEmptyKey method body call = state_at_key_asked method call body
route_asked route.State method body call = state_asked method call body
route_asked route.Redact method body call = redact_asked call body
route_asked route.JoinById method body call = own_asked own.Join call.who (one_part call.parts) body
route_asked route.Join method body call = own_asked own.Join call.who (room_of call.parts) body
route_asked route.Leave method body call = own_asked own.Leave call.who (room_of call.parts) body
route_asked route.Invite method body call = change_asked change.Invite call.who (room_of call.parts) body
route_asked route.Kick method body call = change_asked change.Kick call.who (room_of call.parts) body
route_asked route.Ban method body call = change_asked change.Ban call.who (room_of call.parts) body
route_asked route.Unban method body call = change_asked change.Unban call.who (room_of call.parts) body

-- what a call asks by the route that its path finds, or the first refusal
unfoldable pub room_asked : Users → Call → Asked
room_asked users call = asked_at has_method route_asked table users call
