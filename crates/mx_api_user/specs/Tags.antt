-- The tags of a room (Client-Server API, Room Tagging), by the parts of the path from `{userId}` on.
use Rattle.std.specs.Prelude.{ℕ, List, codes, if◌then◌else◌}
use Rattle.std.specs.Str.{bytes_eq}
use Rattle.mx_ask.specs.declared.ask.Ask.TheVariants as ask
use Rattle.mx_ask.specs.declared.ask.Who.{Who}
use Rattle.mx_api.specs.Bodies.{object_of}
use Rattle.mx_api.specs.Calls.{asked_by, request}
use Rattle.mx_api.specs.Parts.{asked_of, four_parts}
use Rattle.mx_api.specs.declared.asked.Asked.{Asked}
use Rattle.mx_api.specs.declared.authenticated.Authenticated.{Authenticated}
use Rattle.mx_api_user.specs.Parts.{five_parts, of_caller}

-- GET /user/{userId}/rooms/{roomId}/tags
abbrev pub tags_asked : Authenticated → Asked
tags_asked call = asked_of (λ p. of_caller call.who p.0 (request call.who (ask.Tags p.2))) (four_parts call.parts)

-- what a method asks of a tag: to take it away, or to put it with an object
unfoldable pub tag_by : List ℕ → Who → List ℕ → List ℕ → List ℕ → Asked
tag_by method who room tag body =
    if bytes_eq method (codes "DELETE") then request who (ask.DeleteTag room tag)
    else asked_by (λ content. request who (ask.PutTag room tag content)) (object_of body)

-- PUT and DELETE /user/{userId}/rooms/{roomId}/tags/{tag}
unfoldable pub tag_asked : List ℕ → Authenticated → List ℕ → Asked
tag_asked method call body = asked_of (λ p. of_caller call.who p.0 (tag_by method call.who p.2 p.4 body)) (five_parts call.parts)
