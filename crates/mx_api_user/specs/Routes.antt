-- The routes on a user's own data (Client-Server API).
use Rattle.std.specs.Prelude.{ℕ, List, [], ◌∷◌, Bool, ◌||◌, codes}
use Rattle.std.specs.Str.{bytes_eq}
use Rattle.matchit.specs.Router.{RouteOf}
use Rattle.matchit.specs.Rows.{RowsOf}
use Rattle.mx_api.specs.Routing.{rows_of}
use Rattle.mx_api_user.specs.declared.route.Route.{Route}
use Rattle.mx_api_user.specs.declared.route.Route.TheVariants as route

abbrev pub path_of : Route → List ℕ
path_of route.WhoAmI = codes "/_matrix/client/v3/account/whoami"
path_of route.Sync = codes "/_matrix/client/v3/sync"
path_of route.Filters = codes "/_matrix/client/v3/user/{userId}/filter"
path_of route.Filter = codes "/_matrix/client/v3/user/{userId}/filter/{filterId}"
path_of route.AccountData = codes "/_matrix/client/v3/user/{userId}/account_data/{type}"
path_of route.RoomAccountData = codes "/_matrix/client/v3/user/{userId}/rooms/{roomId}/account_data/{type}"
path_of route.Tags = codes "/_matrix/client/v3/user/{userId}/rooms/{roomId}/tags"
path_of route.Tag = codes "/_matrix/client/v3/user/{userId}/rooms/{roomId}/tags/{tag}"
path_of route.PushRules = codes "/_matrix/client/v3/pushrules/"
path_of route.GlobalRules = codes "/_matrix/client/v3/pushrules/global/"
path_of route.Rule = codes "/_matrix/client/v3/pushrules/global/{kind}/{ruleId}"
path_of route.Enabled = codes "/_matrix/client/v3/pushrules/global/{kind}/{ruleId}/enabled"
path_of route.Actions = codes "/_matrix/client/v3/pushrules/global/{kind}/{ruleId}/actions"

-- the path has this method
abbrev pub has_method : Route → List ℕ → Bool
has_method route.WhoAmI method = bytes_eq method (codes "GET")
has_method route.Sync method = bytes_eq method (codes "GET")
has_method route.Filters method = bytes_eq method (codes "POST")
has_method route.Filter method = bytes_eq method (codes "GET")
has_method route.AccountData method = bytes_eq method (codes "PUT") || bytes_eq method (codes "GET")
has_method route.RoomAccountData method = bytes_eq method (codes "PUT") || bytes_eq method (codes "GET")
has_method route.Tags method = bytes_eq method (codes "GET")
has_method route.Tag method = bytes_eq method (codes "PUT") || bytes_eq method (codes "DELETE")
has_method route.PushRules method = bytes_eq method (codes "GET")
has_method route.GlobalRules method = bytes_eq method (codes "GET")
has_method route.Rule method = bytes_eq method (codes "GET") || bytes_eq method (codes "PUT") || bytes_eq method (codes "DELETE")
has_method route.Enabled method = bytes_eq method (codes "PUT") || bytes_eq method (codes "GET")
has_method route.Actions method = bytes_eq method (codes "PUT") || bytes_eq method (codes "GET")

-- all of them
abbrev pub routes : List Route
routes =
    route.WhoAmI
    ∷ route.Sync
    ∷ route.Filters
    ∷ route.Filter
    ∷ route.AccountData
    ∷ route.RoomAccountData
    ∷ route.Tags
    ∷ route.Tag
    ∷ route.PushRules
    ∷ route.GlobalRules
    ∷ route.Rule
    ∷ route.Enabled
    ∷ route.Actions
    ∷ []

-- the table of all routes
unfoldable pub table : RowsOf (RouteOf Route)
table = rows_of path_of routes
