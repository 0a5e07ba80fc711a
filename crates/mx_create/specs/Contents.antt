-- The contents of the events by which a room is created (Client-Server API, POST /createRoom).
use Rattle.std.specs.Prelude.{ℕ, pos, List, [], ◌∷◌, fold, Bool, true, false, Option, Some, None, option_and_then, unwrap_or, if◌then◌else◌, codes}
use Rattle.mx_json.specs.Fields.{bool_of, field, members_of}
use Rattle.mx_json.specs.Keys.{with_member}
use Rattle.mx_json.specs.declared.members.Member.{Member}
use Rattle.mx_json.specs.declared.value.Json.{Json}
use Rattle.mx_json.specs.declared.value.Json.TheVariants as json
use Rattle.mx_event.specs.Forms.{member}
use Rattle.mx_create.specs.Bodies.{invited}
use Rattle.mx_create.specs.Presets.{trusts_invited}
use Rattle.mx_create.specs.declared.preset.Preset.{Preset}

-- an object with one key
abbrev pub single : List ℕ → Json → Json
single key value = json.Object (member key value ∷ [])

abbrev pub members_or_none : Option Json → List (Member Json)
members_or_none None = []
members_or_none (Some j) = members_of j

-- members with the value of another one set at its key
abbrev pub with_one : List (Member Json) → Member Json → List (Member Json)
with_one ms m = with_member m.key m.value ms

-- members with the values of others set at their keys
abbrev pub with_all : List (Member Json) → List (Member Json) → List (Member Json)
with_all ms others = fold with_one ms others

-- `creation_content`, if it is an object, with the room's version
unfoldable pub create_content : Json → Json
create_content ask = json.Object (with_member (codes "room_version") (json.Text (codes "11")) (members_or_none (field (codes "creation_content") ask)))

abbrev pub membership_content : List ℕ → Json
membership_content membership = single (codes "membership") (json.Text membership)

abbrev pub at_hundred : List ℕ → Member Json
at_hundred user = member user (json.Int (pos 100))

abbrev pub with_user : List (Member Json) → List ℕ → List (Member Json)
with_user ms user = with_one ms (at_hundred user)

-- the users with a level of their own: the creator, and in a trusted room those who are invited
abbrev pub first_levels : Preset → List ℕ → Json → List (Member Json)
first_levels preset creator ask = fold with_user (at_hundred creator ∷ []) (if trusts_invited preset then invited ask else [])

abbrev pub int : ℕ → Json
int n = json.Int (pos n)

unfoldable pub default_powers : Preset → List ℕ → Json → List (Member Json)
default_powers preset creator ask =
    member (codes "ban") (int 50)
    ∷ member (codes "events") (json.Object [])
    ∷ member (codes "events_default") (int 0)
    ∷ member (codes "invite") (int 0)
    ∷ member (codes "kick") (int 50)
    ∷ member (codes "notifications") (single (codes "room") (int 50))
    ∷ member (codes "redact") (int 50)
    ∷ member (codes "state_default") (int 50)
    ∷ member (codes "users") (json.Object (first_levels preset creator ask))
    ∷ member (codes "users_default") (int 0)
    ∷ []

-- the power levels, with each key of `power_level_content_override` in place of its default
unfoldable pub power_content : Preset → List ℕ → Json → Json
power_content preset creator ask = json.Object (with_all (default_powers preset creator ask) (members_or_none (field (codes "power_level_content_override") ask)))

-- `true` stands at the key
abbrev pub is_set : List ℕ → Json → Bool
is_set key j = unwrap_or (option_and_then bool_of (field key j)) false

-- an invitation, direct where the body says so
unfoldable pub invite_content : Json → Json
invite_content ask =
    if is_set (codes "is_direct") ask then json.Object (member (codes "is_direct") (json.Bool true) ∷ member (codes "membership") (json.Text (codes "invite")) ∷ [])
    else membership_content (codes "invite")
