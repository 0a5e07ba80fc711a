-- The routes that read rooms, and that mark what was read (Client-Server API).
use Rattle.std.specs.Prelude.{ℕ, List, [], ◌∷◌, Bool, codes}
use Rattle.std.specs.Str.{bytes_eq}
use Rattle.matchit.specs.Router.{RouteOf}
use Rattle.matchit.specs.Rows.{RowsOf}
use Rattle.mx_api.specs.Routing.{rows_of}
use Rattle.mx_api_reads.specs.declared.route.Route.{Route}
use Rattle.mx_api_reads.specs.declared.route.Route.TheVariants as route

abbrev pub path_of : Route → List ℕ
path_of route.JoinedRooms = codes "/_matrix/client/v3/joined_rooms"
path_of route.State = codes "/_matrix/client/v3/rooms/{roomId}/state"
path_of route.Members = codes "/_matrix/client/v3/rooms/{roomId}/members"
path_of route.Event = codes "/_matrix/client/v3/rooms/{roomId}/event/{eventId}"
path_of route.Messages = codes "/_matrix/client/v3/rooms/{roomId}/messages"
path_of route.Receipt = codes "/_matrix/client/v3/rooms/{roomId}/receipt/{receiptType}/{eventId}"
path_of route.ReadMarkers = codes "/_matrix/client/v3/rooms/{roomId}/read_markers"

-- the path has this method
abbrev pub has_method : Route → List ℕ → Bool
has_method route.JoinedRooms method = bytes_eq method (codes "GET")
has_method route.State method = bytes_eq method (codes "GET")
has_method route.Members method = bytes_eq method (codes "GET")
has_method route.Event method = bytes_eq method (codes "GET")
has_method route.Messages method = bytes_eq method (codes "GET")
has_method route.Receipt method = bytes_eq method (codes "POST")
has_method route.ReadMarkers method = bytes_eq method (codes "POST")

-- all of them
abbrev pub routes : List Route
routes =
    route.JoinedRooms
    ∷ route.State
    ∷ route.Members
    ∷ route.Event
    ∷ route.Messages
    ∷ route.Receipt
    ∷ route.ReadMarkers
    ∷ []

-- the table of all routes
unfoldable pub table : RowsOf (RouteOf Route)
table = rows_of path_of routes
