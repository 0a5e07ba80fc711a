-- The tags of a room, in the content of the room's account data of type `m.tag` (Client-Server API, Room Tagging).
use Rattle.std.specs.Prelude.{ℕ, List, [], filter, not, Option, Some, None, option_and_then, unwrap_or, if◌then◌else◌, codes}
use Rattle.std.specs.Str.{bytes_eq}
use Rattle.mx_json.specs.Fields.{field, is_object, members_of}
use Rattle.mx_json.specs.Keys.{with_member}
use Rattle.mx_json.specs.declared.members.Member.{Member}
use Rattle.mx_json.specs.declared.value.Json.{Json}
use Rattle.mx_json.specs.declared.value.Json.TheVariants as json

-- the members of an object
abbrev pub object_of : Json → Option (List (Member Json))
object_of j = if is_object j then Some (members_of j) else None

-- the members of a content, and none where there is no content or it is no object
abbrev pub members_in : Option Json → List (Member Json)
members_in content = unwrap_or (option_and_then object_of content) []

-- the object at the key `tags` of a content, where there is one
abbrev pub tags_at : Option Json → Option (List (Member Json))
tags_at content = option_and_then object_of (option_and_then (field (codes "tags")) content)

-- the tags of a content
abbrev pub tags_of : Option Json → List (Member Json)
tags_of content = unwrap_or (tags_at content) []

-- the members of other keys
abbrev pub without_member : List ℕ → List (Member Json) → List (Member Json)
without_member key ms = filter (λ m. not (bytes_eq m.key key)) ms

-- a content with these tags in place of its own
abbrev pub with_tags : List (Member Json) → Option Json → Json
with_tags tags content = json.Object (with_member (codes "tags") (json.Object tags) (members_in content))

-- a content with a tag set among its tags, and with it taken out of them
abbrev pub with_tag : List ℕ → Json → Option Json → Json
with_tag tag body content = with_tags (with_member tag body (tags_of content)) content

abbrev pub without_tag : List ℕ → Option Json → Json
without_tag tag content = with_tags (without_member tag (tags_of content)) content
