-- What a call asks by a table of endpoints, or the first refusal.
use Rattle.std.specs.Prelude.{ℕ, Bool, List, Option, Some, None, option_map, if◌then◌else◌}
use Rattle.matchit.specs.Router.{RouteOf}
use Rattle.matchit.specs.Rows.{RowsOf}
use Rattle.matchit.specs.Seek.{first}
use Rattle.mx_ids.specs.declared.users.Users.{Users}
use Rattle.mx_http.specs.Queries.{path_of}
use Rattle.mx_http.specs.declared.call.Call.{Call}
use Rattle.mx_api.specs.Calls.{asked_by, authenticated}
use Rattle.mx_api.specs.declared.asked.Asked.{Asked}
use Rattle.mx_api.specs.declared.asked.Asked.TheVariants as asked
use Rattle.mx_api.specs.declared.authenticated.Authenticated.{Authenticated}
use Rattle.mx_api.specs.declared.refused.Refused.TheVariants as refused

module _ {E : Type 0} (has_method : E → List ℕ → Bool) (asks : E → List ℕ → List ℕ → Authenticated → Asked) where
  -- on an endpoint, by its methods and by what is asked on it
  abbrev pub asked_on : Users → Call → Option E → Asked
  asked_on users call None = asked.NoRoute
  asked_on users call (Some endpoint) =
      if has_method endpoint call.method then asked_by (asks endpoint call.method call.body) (authenticated users call) else asked.Refused refused.NoMethod

  -- on the endpoint that the path finds
  unfoldable pub asked_at : RowsOf (RouteOf E) → Users → Call → Asked
  asked_at table users call = asked_on users call (option_map (λ row. row.value) (first table (path_of call.target)))
