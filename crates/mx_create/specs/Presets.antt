-- The presets of new rooms (Client-Server API, POST /createRoom).
use Rattle.std.specs.Prelude.{ℕ, List, Bool, true, false, Option, Some, None, option_and_then, if◌then◌else◌, codes}
use Rattle.std.specs.Str.{bytes_eq}
use Rattle.mx_event.specs.Kinds.{is_text}
use Rattle.mx_json.specs.Fields.{field, text_at, text_of}
use Rattle.mx_json.specs.declared.value.Json.{Json}
use Rattle.mx_create.specs.declared.preset.Preset.{Preset}
use Rattle.mx_create.specs.declared.preset.Preset.TheVariants as preset

abbrev pub preset_named : List ℕ → Option Preset
preset_named name =
    if bytes_eq name (codes "private_chat") then Some preset.PrivateChat else (
    if bytes_eq name (codes "trusted_private_chat") then Some preset.TrustedPrivateChat else (
    if bytes_eq name (codes "public_chat") then Some preset.PublicChat else None))

-- without a preset the room is public where it is to be listed
abbrev pub by_visibility : Json → Preset
by_visibility ask = if is_text (codes "public") (text_at (codes "visibility") ask) then preset.PublicChat else preset.PrivateChat

abbrev pub preset_or : Preset → Option Json → Option Preset
preset_or otherwise None = Some otherwise
preset_or otherwise (Some named) = option_and_then preset_named (text_of named)

-- the preset that a body asks for; none where it names one that there isn't
abbrev pub preset_of : Json → Option Preset
preset_of ask = preset_or (by_visibility ask) (field (codes "preset") ask)

abbrev pub join_rule_of : Preset → List ℕ
join_rule_of preset.PrivateChat = codes "invite"
join_rule_of preset.TrustedPrivateChat = codes "invite"
join_rule_of preset.PublicChat = codes "public"

abbrev pub history_visibility_of : Preset → List ℕ
history_visibility_of preset.PrivateChat = codes "shared"
history_visibility_of preset.TrustedPrivateChat = codes "shared"
history_visibility_of preset.PublicChat = codes "shared"

abbrev pub guest_access_of : Preset → List ℕ
guest_access_of preset.PrivateChat = codes "can_join"
guest_access_of preset.TrustedPrivateChat = codes "can_join"
guest_access_of preset.PublicChat = codes "forbidden"

-- those who are invited get the creator's level
abbrev pub trusts_invited : Preset → Bool
trusts_invited preset.PrivateChat = false
trusts_invited preset.TrustedPrivateChat = true
trusts_invited preset.PublicChat = false
