-- The routes on rooms (Client-Server API).
use Rattle.std.specs.Prelude.{ℕ, List, [], ◌∷◌, Bool, ◌||◌, codes}
use Rattle.std.specs.Str.{bytes_eq}
use Rattle.matchit.specs.Router.{RouteOf}
use Rattle.matchit.specs.Rows.{RowsOf}
use Rattle.mx_api.specs.Routing.{rows_of}
use Rattle.mx_api_room.specs.declared.route.Route.{Route}
use Rattle.mx_api_room.specs.declared.route.Route.TheVariants as route

abbrev pub path_of : Route → List ℕ
path_of route.CreateRoom = codes "/_matrix/client/v3/createRoom"
path_of route.Send = codes "/_matrix/client/v3/rooms/{roomId}/send/{eventType}/{txnId}"
path_of route.StateAtKey = codes "/_matrix/client/v3/rooms/{roomId}/state/{eventType}/{stateKey}"
path_of route.StateAtEmptyKey = codes "/_matrix/client/v3/rooms/{roomId}/state/{eventType}/"
path_of route.State = codes "/_matrix/client/v3/rooms/{roomId}/state/{eventType}"
path_of route.Redact = codes "/_matrix/client/v3/rooms/{roomId}/redact/{eventId}/{txnId}"
path_of route.JoinById = codes "/_matrix/client/v3/join/{roomId}"
path_of route.Join = codes "/_matrix/client/v3/rooms/{roomId}/join"
path_of route.Leave = codes "/_matrix/client/v3/rooms/{roomId}/leave"
path_of route.Invite = codes "/_matrix/client/v3/rooms/{roomId}/invite"
path_of route.Kick = codes "/_matrix/client/v3/rooms/{roomId}/kick"
path_of route.Ban = codes "/_matrix/client/v3/rooms/{roomId}/ban"
path_of route.Unban = codes "/_matrix/client/v3/rooms/{roomId}/unban"

-- the path has this method
abbrev pub has_method : Route → List ℕ → Bool
has_method route.CreateRoom method = bytes_eq method (codes "POST")
has_method route.Send method = bytes_eq method (codes "PUT")
has_method route.StateAtKey method = bytes_eq method (codes "PUT") || bytes_eq method (codes "GET")
has_method route.StateAtEmptyKey method = bytes_eq method (codes "PUT") || bytes_eq method (codes "GET")
has_method route.State method = bytes_eq method (codes "PUT") || bytes_eq method (codes "GET")
has_method route.Redact method = bytes_eq method (codes "PUT")
has_method route.JoinById method = bytes_eq method (codes "POST")
has_method route.Join method = bytes_eq method (codes "POST")
has_method route.Leave method = bytes_eq method (codes "POST")
has_method route.Invite method = bytes_eq method (codes "POST")
has_method route.Kick method = bytes_eq method (codes "POST")
has_method route.Ban method = bytes_eq method (codes "POST")
has_method route.Unban method = bytes_eq method (codes "POST")

-- all of them
abbrev pub routes : List Route
routes =
    route.CreateRoom
    ∷ route.Send
    ∷ route.StateAtKey
    ∷ route.StateAtEmptyKey
    ∷ route.State
    ∷ route.Redact
    ∷ route.JoinById
    ∷ route.Join
    ∷ route.Leave
    ∷ route.Invite
    ∷ route.Kick
    ∷ route.Ban
    ∷ route.Unban
    ∷ []

-- the table of all routes
unfoldable pub table : RowsOf (RouteOf Route)
table = rows_of path_of routes
