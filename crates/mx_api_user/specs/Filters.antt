-- The filter of a sync, and stored filters (Client-Server API, Filtering).
use Rattle.std.specs.Prelude.{ℕ, List, Option, Some, None, Result, Ok, Err, if◌then◌else◌}
use Rattle.mx_json.specs.declared.value.Json.{Json}
use Rattle.mx_filter.specs.Fields.{is_federation, wrong_filter}
use Rattle.mx_filter.specs.Filters.{filter_of}
use Rattle.mx_ask.specs.declared.ask.Ask.TheVariants as ask
use Rattle.mx_ask.specs.declared.ask.FilterAsk.{FilterAsk}
use Rattle.mx_ask.specs.declared.ask.FilterAsk.TheVariants as filter
use Rattle.mx_ask.specs.declared.ask.Who.{Who}
use Rattle.mx_api.specs.Bodies.{json_of, posted}
use Rattle.mx_api.specs.Calls.{and_then, asked_by, request}
use Rattle.mx_api.specs.Parts.{asked_of, three_parts, two_parts}
use Rattle.mx_api.specs.Queries.{begins_object}
use Rattle.mx_api.specs.declared.asked.Asked.{Asked}
use Rattle.mx_api.specs.declared.authenticated.Authenticated.{Authenticated}
use Rattle.mx_api.specs.declared.refused.Field.TheVariants as fields
use Rattle.mx_api.specs.declared.refused.Refused.{Refused}
use Rattle.mx_api.specs.declared.refused.Refused.TheVariants as refused
use Rattle.mx_api_user.specs.Parts.{of_caller}

-- the filter that a value describes, by its first field of the wrong type
abbrev pub unless_wrong : Json → Option (List ℕ) → Result FilterAsk Refused
unless_wrong j (Some path) = Err (refused.BadShape (fields.Path path))
unless_wrong j None = if is_federation j then Err refused.EventFormat else Ok (filter.Inline (filter_of j))

abbrev pub inline_in : Json → Result FilterAsk Refused
inline_in j = unless_wrong j (wrong_filter j)

-- what a parameter `filter` asks: JSON is the filter itself, and another text is the id of a stored one
unfoldable pub filter_asked : Option (List ℕ) → Result FilterAsk Refused
filter_asked None = Ok filter.Absent
filter_asked (Some value) = if begins_object value then and_then inline_in (json_of value) else Ok (filter.Stored value)

-- a filter that is put, which is judged as that of a sync is
abbrev pub filter_put : Who → Json → Asked
filter_put who j = asked_by (λ _. request who (ask.PutFilter j)) (inline_in j)

-- POST /user/{userId}/filter, by the parts from `{userId}` on
unfoldable pub put_filter_asked : Authenticated → List ℕ → Asked
put_filter_asked call body = asked_of (λ p. of_caller call.who p.0 (asked_by (filter_put call.who) (posted body))) (two_parts call.parts)

-- GET /user/{userId}/filter/{filterId}, by the parts from `{userId}` on
abbrev pub get_filter_asked : Authenticated → Asked
get_filter_asked call = asked_of (λ p. of_caller call.who p.0 (request call.who (ask.GetFilter p.2))) (three_parts call.parts)
