-- Account data, global and of a room (Client-Server API, Client Config).
use Rattle.std.specs.Prelude.{ℕ, List, ◌||◌, Bool, Option, Some, None, codes, if◌then◌else◌}
use Rattle.std.specs.Str.{bytes_eq}
use Rattle.mx_json.specs.declared.value.Json.{Json}
use Rattle.mx_ask.specs.declared.ask.Ask.TheVariants as ask
use Rattle.mx_ask.specs.declared.ask.Who.{Who}
use Rattle.mx_api.specs.Bodies.{object_of}
use Rattle.mx_api.specs.Calls.{asked_by, request}
use Rattle.mx_api.specs.Parts.{asked_of, three_parts}
use Rattle.mx_api.specs.declared.asked.Asked.{Asked}
use Rattle.mx_api.specs.declared.asked.Asked.TheVariants as asked
use Rattle.mx_api.specs.declared.authenticated.Authenticated.{Authenticated}
use Rattle.mx_api.specs.declared.refused.Refused.TheVariants as refused
use Rattle.mx_api_user.specs.Parts.{five_parts, of_caller}

-- a type that clients don't put as account data
abbrev pub is_own_type : List ℕ → Bool
is_own_type kind = bytes_eq kind (codes "m.fully_read") || bytes_eq kind (codes "m.push_rules")

abbrev pub content_put : Who → Option (List ℕ) → List ℕ → Json → Asked
content_put who room kind content = if is_own_type kind then asked.Refused refused.OwnType else request who (ask.PutAccount room kind content)

-- what a method asks of the data of a type: to read it, or to put an object
unfoldable pub data_asked : List ℕ → Who → Option (List ℕ) → List ℕ → List ℕ → Asked
data_asked method who room kind body =
    if bytes_eq method (codes "GET") then request who (ask.GetAccount room kind) else asked_by (content_put who room kind) (object_of body)

-- PUT and GET /user/{userId}/account_data/{type}, by the parts from `{userId}` on
unfoldable pub account_asked : List ℕ → Authenticated → List ℕ → Asked
account_asked method call body = asked_of (λ p. of_caller call.who p.0 (data_asked method call.who None p.2 body)) (three_parts call.parts)

-- PUT and GET /user/{userId}/rooms/{roomId}/account_data/{type}
unfoldable pub room_account_asked : List ℕ → Authenticated → List ℕ → Asked
room_account_asked method call body =
    asked_of (λ p. of_caller call.who p.0 (data_asked method call.who (Some p.2) p.4 body)) (five_parts call.parts)
