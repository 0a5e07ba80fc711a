-- A page of a room's events (Client-Server API, `GET /rooms/{roomId}/messages`).
use Rattle.std.specs.Prelude.{ℕ, ◌||◌, List, [], ◌∷◌, Bool, Option, Some, None, is_some, Result, Ok, Err, option_and_then, option_map, unwrap_or, codes}
use Rattle.std.specs.Option.{option_or}
use Rattle.std.specs.Str.{bytes_eq}
use Rattle.mx_json.specs.declared.value.Json.{Json}
use Rattle.mx_filter.specs.Fields.{wrong_page_filter}
use Rattle.mx_filter.specs.Filters.{filter_by, page_filter_of}
use Rattle.mx_filter.specs.declared.parts.Filter.{Filter}
use Rattle.mx_pager.specs.declared.asked.Bound.{Bound}
use Rattle.mx_pager.specs.declared.asked.Bound.TheVariants as bound
use Rattle.mx_ask.specs.declared.ask.Ask.TheVariants as ask
use Rattle.mx_ask.specs.declared.ask.Who.{Who}
use Rattle.mx_http.specs.Queries.{parameter}
use Rattle.mx_api.specs.Bodies.{json_of}
use Rattle.mx_api.specs.Calls.{and_then, asked_by, request}
use Rattle.mx_api.specs.Parts.{asked_of, room_of}
use Rattle.mx_api.specs.Queries.{begins_object, first_wrong, is_wrong, number_within}
use Rattle.mx_api.specs.Tokens.{page_token_of, sync_token_of}
use Rattle.mx_api.specs.declared.asked.Asked.{Asked}
use Rattle.mx_api.specs.declared.asked.Asked.TheVariants as asked
use Rattle.mx_api.specs.declared.authenticated.Authenticated.{Authenticated}
use Rattle.mx_api.specs.declared.refused.Field.TheVariants as fields
use Rattle.mx_api.specs.declared.refused.Parameter.{Parameter}
use Rattle.mx_api.specs.declared.refused.Parameter.TheVariants as name
use Rattle.mx_api.specs.declared.refused.Refused.{Refused}
use Rattle.mx_api.specs.declared.refused.Refused.TheVariants as refused

-- ---- the forms of the parameters

abbrev pub is_direction : List ℕ → Bool
is_direction value = bytes_eq value (codes "b") || bytes_eq value (codes "f")

-- the bound that a text is: a sync token or a page token
abbrev pub bound_of : List ℕ → Option Bound
bound_of value = option_or (option_map bound.Sync (sync_token_of value)) (option_map bound.Page (page_token_of value))

abbrev pub is_bound : List ℕ → Bool
is_bound value = is_some (bound_of value)

-- how many events are asked for: at most 1,000
abbrev pub limit_of : List ℕ → Option ℕ
limit_of value = number_within 1000 value

abbrev pub is_limit : List ℕ → Bool
is_limit value = is_some (limit_of value)

-- the first parameter of a query that isn't of its form
unfoldable pub first_bad : List (List ℕ × List ℕ) → Option Parameter
first_bad query =
    first_wrong
    ((name.Dir, is_wrong is_direction (parameter (codes "dir") query))
    ∷ (name.From, is_wrong is_bound (parameter (codes "from") query))
    ∷ (name.To, is_wrong is_bound (parameter (codes "to") query))
    ∷ (name.Limit, is_wrong is_limit (parameter (codes "limit") query))
    ∷ (name.Filter, is_wrong begins_object (parameter (codes "filter") query))
    ∷ [])
    query

-- ---- what they ask

-- the filter that a value describes: its first field of the wrong type is told
abbrev pub unless_wrong : Filter → Option (List ℕ) → Result Filter Refused
unless_wrong f None = Ok f
unless_wrong f (Some path) = Err (refused.BadShape (fields.Path path))

abbrev pub filter_in : Json → Result Filter Refused
filter_in j = unless_wrong (page_filter_of j) (wrong_page_filter j)

-- the filter of a query; without one all passes
unfoldable pub filter_of : Option (List ℕ) → Result Filter Refused
filter_of None = Ok (filter_by None None)
filter_of (Some value) = and_then filter_in (json_of value)

abbrev pub bound_at : List ℕ → List (List ℕ × List ℕ) → Option Bound
bound_at key query = option_and_then bound_of (parameter key query)

-- 10 where there is no limit
abbrev pub limit_in : List (List ℕ × List ℕ) → ℕ
limit_in query = unwrap_or (option_and_then limit_of (parameter (codes "limit") query)) 10

abbrev pub page_asked : Who → List ℕ → List ℕ → List (List ℕ × List ℕ) → Filter → Asked
page_asked who room dir query filter =
    request who (ask.Messages room (bytes_eq dir (codes "b")) (bound_at (codes "from") query) (bound_at (codes "to") query) (limit_in query) filter)

-- in a direction, unless a parameter is bad
abbrev pub page_by : Who → List ℕ → List ℕ → List (List ℕ × List ℕ) → Option Parameter → Asked
page_by who room dir query (Some bad) = asked.Refused (refused.BadParameter bad)
page_by who room dir query None = asked_by (page_asked who room dir query) (filter_of (parameter (codes "filter") query))

-- the direction has to be there
abbrev pub directed : Who → List ℕ → List (List ℕ × List ℕ) → Option (List ℕ) → Asked
directed who room query None = asked.Refused (refused.MissingParameter name.Dir)
directed who room query (Some dir) = page_by who room dir query (first_bad query)

-- GET /rooms/{roomId}/messages
unfoldable pub messages_asked : Authenticated → Asked
messages_asked call = asked_of (λ room. directed call.who room call.query (parameter (codes "dir") call.query)) (room_of call.parts)
