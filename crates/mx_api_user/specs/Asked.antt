-- What a call on a user's own data asks, or the first refusal.
use Rattle.std.specs.Prelude.{ℕ, List, true, false}
use Rattle.mx_ids.specs.declared.users.Users.{Users}
use Rattle.mx_http.specs.declared.call.Call.{Call}
use Rattle.mx_ask.specs.declared.ask.Ask.TheVariants as ask
use Rattle.mx_api.specs.Calls.{request}
use Rattle.mx_api.specs.Endpoints.{asked_at}
use Rattle.mx_api.specs.declared.asked.Asked.{Asked}
use Rattle.mx_api.specs.declared.authenticated.Authenticated.{Authenticated}
use Rattle.mx_api_user.specs.Account.{account_asked, room_account_asked}
use Rattle.mx_api_user.specs.Filters.{get_filter_asked, put_filter_asked}
use Rattle.mx_api_user.specs.Routes.{has_method, table}
use Rattle.mx_api_user.specs.Rules.{actions_asked, enabled_asked, rule_asked, rules_asked}
use Rattle.mx_api_user.specs.Sync.{sync_asked}
use Rattle.mx_api_user.specs.Tags.{tag_asked, tags_asked}
use Rattle.mx_api_user.specs.declared.route.Route.{Route}
use Rattle.mx_api_user.specs.declared.route.Route.TheVariants as route

-- on a route, by the method and the body
abbrev pub route_asked : Route → List ℕ → List ℕ → Authenticated → Asked
route_asked route.WhoAmI method body call = request call.who ask.WhoAmI
route_asked route.Sync method body call = sync_asked call
route_asked route.Filters method body call = put_filter_asked call body
route_asked route.Filter method body call = get_filter_asked call
route_asked route.AccountData method body call = account_asked method call body
route_asked route.RoomAccountData method body call = room_account_asked method call body
route_asked route.Tags method body call = tags_asked call
route_asked route.Tag method body call = tag_asked method call body
route_asked route.PushRules method body call = rules_asked call.who false
route_asked route.GlobalRules method body call = rules_asked call.who true
route_asked route.Rule method body call = rule_asked method call body
route_asked route.Enabled method body call = enabled_asked method call body
route_asked route.Actions method body call = actions_asked method call body

-- what a call asks by the route that its path finds, or the first refusal
unfoldable pub user_asked : Users → Call → Asked
user_asked users call = asked_at has_method route_asked table users call
