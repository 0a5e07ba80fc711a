-- A sync (Client-Server API, Syncing).
use Rattle.std.specs.Prelude.{ℕ, List, Option, Some, None, codes}
use Rattle.mx_ask.specs.declared.ask.Ask.TheVariants as ask
use Rattle.mx_ask.specs.declared.ask.FilterAsk.{FilterAsk}
use Rattle.mx_ask.specs.declared.ask.Who.{Who}
use Rattle.mx_http.specs.Queries.{parameter}
use Rattle.mx_api.specs.Calls.{asked_by, request}
use Rattle.mx_api.specs.declared.asked.Asked.{Asked}
use Rattle.mx_api.specs.declared.asked.Asked.TheVariants as asked
use Rattle.mx_api.specs.declared.authenticated.Authenticated.{Authenticated}
use Rattle.mx_api.specs.declared.refused.Parameter.{Parameter}
use Rattle.mx_api.specs.declared.refused.Refused.TheVariants as refused
use Rattle.mx_api_user.specs.Filters.{filter_asked}
use Rattle.mx_api_user.specs.Queries.{first_bad, is_after, is_full, since_in, timeout_in}

-- by a filter
abbrev pub sync_with : Who → List (List ℕ × List ℕ) → FilterAsk → Asked
sync_with who query filter = request who (ask.Sync (since_in query) filter (is_full query) (is_after query) (timeout_in query))

-- by its parameters, unless one is bad
abbrev pub sync_by : Who → List (List ℕ × List ℕ) → Option Parameter → Asked
sync_by who query (Some bad) = asked.Refused (refused.BadParameter bad)
sync_by who query None = asked_by (sync_with who query) (filter_asked (parameter (codes "filter") query))

-- GET /sync
unfoldable pub sync_asked : Authenticated → Asked
sync_asked call = sync_by call.who call.query (first_bad call.query)
