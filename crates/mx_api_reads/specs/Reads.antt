-- Calls that read a room (Client-Server API, Getting events for a room), by the parts of the path from `{roomId}` on.
use Rattle.std.specs.Prelude.{codes}
use Rattle.mx_ask.specs.declared.ask.Ask.TheVariants as ask
use Rattle.mx_http.specs.Queries.{parameter}
use Rattle.mx_api.specs.Calls.{request}
use Rattle.mx_api.specs.Parts.{asked_of, room_of, three_parts}
use Rattle.mx_api.specs.declared.asked.Asked.{Asked}
use Rattle.mx_api.specs.declared.authenticated.Authenticated.{Authenticated}

-- GET /rooms/{roomId}/state
abbrev pub state_asked : Authenticated → Asked
state_asked call = asked_of (λ r. request call.who (ask.AllState r)) (room_of call.parts)

-- GET /rooms/{roomId}/members
unfoldable pub members_asked : Authenticated → Asked
members_asked call =
    asked_of (λ r. request call.who (ask.Members r (parameter (codes "membership") call.query) (parameter (codes "not_membership") call.query))) (room_of call.parts)

-- GET /rooms/{roomId}/event/{eventId}
abbrev pub event_asked : Authenticated → Asked
event_asked call = asked_of (λ p. request call.who (ask.OneEvent p.0 p.2)) (three_parts call.parts)
