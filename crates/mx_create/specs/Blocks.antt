-- The block of events that creates a room (Client-Server API, POST /createRoom).
use Rattle.std.specs.Prelude.{ℕ, List, [], ◌∷◌, ◌++◌, map, length, nat_lt, Bool, true, not, ◌&&◌, ◌||◌, Option, Some, None, Result, Ok, Err, option_map, option_and_then, unwrap_or, if◌then◌else◌, codes}
use Rattle.std.specs.List.{list_all, list_any}
use Rattle.std.specs.Option.{option_to_list}
use Rattle.std.specs.Str.{bytes_eq}
use Rattle.mx_ids.specs.declared.users.Users.{Users}
use Rattle.mx_json.specs.Fields.{field, text_at, text_of}
use Rattle.mx_json.specs.declared.value.Json.{Json}
use Rattle.mx_json.specs.declared.value.Json.TheVariants as json
use Rattle.mx_event.specs.Kinds.{create_type, member_type, power_type, join_rules_type, visibility_type, is_text}
use Rattle.mx_event.specs.State.{membership_in}
use Rattle.mx_event.specs.declared.draft.Draft.{Draft}
use Rattle.mx_core.specs.Limits.{most_drawn}
use Rattle.mx_create.specs.Bodies.{listed, invited}
use Rattle.mx_create.specs.Contents.{single, create_content, membership_content, power_content, invite_content}
use Rattle.mx_create.specs.Presets.{preset_of, join_rule_of, history_visibility_of, guest_access_of}
use Rattle.mx_create.specs.declared.creation.Creator.{Creator}
use Rattle.mx_create.specs.declared.fault.CreateFault.{CreateFault}
use Rattle.mx_create.specs.declared.fault.CreateFault.TheVariants as faults
use Rattle.mx_create.specs.declared.preset.Preset.{Preset}

-- who creates a room, and when
pub record Creating : Type 0 where
  pub creator : List ℕ
  pub ts : ℕ

abbrev pub creating : Creator → Creating
creating by = record { creator = by.id.now; ts = by.ts }

-- a state event of the creator, whose room has no position yet
abbrev pub draft : Creating → List ℕ → List ℕ → Json → Draft
draft by kind key content = record {
  room = record { writer = 0; at = 0 };
  kind = kind;
  state_key = Some key;
  sender = by.creator;
  content = content;
  ts = by.ts;
  txn = None;
}

abbrev pub text_or_empty : Option (List ℕ) → List ℕ
text_or_empty text = unwrap_or text []

-- an entry of `initial_state`
abbrev pub initial : Creating → Json → Draft
initial by j = draft by (text_or_empty (text_at (codes "type") j)) (text_or_empty (text_at (codes "state_key") j)) (unwrap_or (field (codes "content") j) json.Null)

-- the event that a text at a key of the body makes
abbrev pub named : Creating → List ℕ → List ℕ → Json → List Draft
named by kind key ask = option_to_list (option_map (λ text. draft by kind [] (single key (json.Text text))) (text_at key ask))

abbrev pub invitation : Creating → Json → List ℕ → Draft
invitation by ask user = draft by member_type user (invite_content ask)

-- the events that the preset alone gives
unfoldable pub rules : Creating → Preset → List Draft
rules by preset =
    draft by join_rules_type [] (single (codes "join_rule") (json.Text (join_rule_of preset)))
    ∷ draft by visibility_type [] (single (codes "history_visibility") (json.Text (history_visibility_of preset)))
    ∷ draft by (codes "m.room.guest_access") [] (single (codes "guest_access") (json.Text (guest_access_of preset)))
    ∷ []

-- the events with which each room begins
unfoldable pub first_drafts : Creating → Preset → Json → List Draft
first_drafts by preset ask =
    draft by create_type [] (create_content ask)
    ∷ draft by member_type by.creator (membership_content (codes "join"))
    ∷ draft by power_type [] (power_content preset by.creator ask)
    ∷ rules by preset

-- the events in their order
unfoldable pub drafts_of : Creating → Preset → Json → List Draft
drafts_of by preset ask =
    first_drafts by preset ask
    ++ (map (initial by) (listed (codes "initial_state") ask)
    ++ (named by (codes "m.room.name") (codes "name") ask
    ++ (named by (codes "m.room.topic") (codes "topic") ask
    ++ map (invitation by ask) (invited ask))))

-- the room version is 11 where it is there
abbrev pub is_eleven : Option Json → Bool
is_eleven None = true
is_eleven (Some j) = is_text (codes "11") (text_of j)

abbrev pub is_known : Users → List ℕ → Bool
is_known users user = list_any (λ id. bytes_eq id user) users.users

-- a member event that invites
abbrev pub invites : Json → Bool
invites j = is_text member_type (text_at (codes "type") j) && is_text (codes "invite") (option_and_then membership_in (field (codes "content") j))

-- whom an entry of `initial_state` invites is known, if it invites
abbrev pub invites_known : Users → Json → Bool
invites_known users j = not (invites j) || is_known users (text_or_empty (text_at (codes "state_key") j))

-- all who are invited are known
unfoldable pub are_known : Users → Json → Bool
are_known users ask = list_all (is_known users) (invited ask) && list_all (invites_known users) (listed (codes "initial_state") ask)

abbrev pub within_block : List Draft → Result (List Draft) CreateFault
within_block drafts = if nat_lt most_drawn (length drafts) then Err faults.TooMany else Ok drafts

abbrev pub with_preset : Creating → Users → Json → Option Preset → Result (List Draft) CreateFault
with_preset by users ask None = Err faults.Preset
with_preset by users ask (Some preset) = if are_known users ask then within_block (drafts_of by preset ask) else Err faults.NoUser

-- the block that a body asks for, or the first fault
unfoldable pub block_of : Creating → Users → Json → Result (List Draft) CreateFault
block_of by users ask = if is_eleven (field (codes "room_version") ask) then with_preset by users ask (preset_of ask) else Err faults.Version
