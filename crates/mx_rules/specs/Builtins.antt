-- The default rules (Client-Server API, Push rules, Predefined Rules): their ids, and what they do.
use Rattle.std.specs.Prelude.{ℕ, Bool, true, false, List, [], ◌∷◌, codes}
use Rattle.mx_json.specs.declared.value.Json.{Json}
use Rattle.mx_json.specs.declared.value.Json.TheVariants as json
use Rattle.mx_rules.specs.Writing.{member, single}
use Rattle.mx_rules.specs.declared.builtin.Builtin.{Builtin}
use Rattle.mx_rules.specs.declared.builtin.Builtin.TheVariants as builtins
use Rattle.mx_rules.specs.declared.builtin.Does.{Does}
use Rattle.mx_rules.specs.declared.builtin.Does.TheVariants as deeds

abbrev pub id_of : Builtin → List ℕ
id_of builtins.Master = codes ".m.rule.master"
id_of builtins.SuppressNotices = codes ".m.rule.suppress_notices"
id_of builtins.InviteForMe = codes ".m.rule.invite_for_me"
id_of builtins.MemberEvent = codes ".m.rule.member_event"
id_of builtins.IsUserMention = codes ".m.rule.is_user_mention"
id_of builtins.ContainsDisplayName = codes ".m.rule.contains_display_name"
id_of builtins.IsRoomMention = codes ".m.rule.is_room_mention"
id_of builtins.RoomNotif = codes ".m.rule.roomnotif"
id_of builtins.Tombstone = codes ".m.rule.tombstone"
id_of builtins.Reaction = codes ".m.rule.reaction"
id_of builtins.SuppressEdits = codes ".m.rule.suppress_edits"
id_of builtins.Call = codes ".m.rule.call"
id_of builtins.RoomOneToOne = codes ".m.rule.room_one_to_one"
id_of builtins.Message = codes ".m.rule.message"

abbrev pub is_on : Builtin → Bool
is_on builtins.Master = false
is_on builtins.SuppressNotices = true
is_on builtins.InviteForMe = true
is_on builtins.MemberEvent = true
is_on builtins.IsUserMention = true
is_on builtins.ContainsDisplayName = true
is_on builtins.IsRoomMention = true
is_on builtins.RoomNotif = true
is_on builtins.Tombstone = true
is_on builtins.Reaction = true
is_on builtins.SuppressEdits = true
is_on builtins.Call = true
is_on builtins.RoomOneToOne = true
is_on builtins.Message = true

abbrev pub does : Builtin → Does
does builtins.Master = deeds.Nothing
does builtins.SuppressNotices = deeds.Nothing
does builtins.InviteForMe = deeds.Sound
does builtins.MemberEvent = deeds.Nothing
does builtins.IsUserMention = deeds.SoundAndHighlight
does builtins.ContainsDisplayName = deeds.SoundAndHighlight
does builtins.IsRoomMention = deeds.Highlight
does builtins.RoomNotif = deeds.Highlight
does builtins.Tombstone = deeds.Highlight
does builtins.Reaction = deeds.Nothing
does builtins.SuppressEdits = deeds.Nothing
does builtins.Call = deeds.Ring
does builtins.RoomOneToOne = deeds.Sound
does builtins.Message = deeds.Notify

-- Actions as JSON.

unfoldable pub notify : Json
notify = json.Text (codes "notify")

unfoldable pub sound : List ℕ → Json
sound name = json.Object (member (codes "set_tweak") (json.Text (codes "sound")) ∷ member (codes "value") (json.Text name) ∷ [])

unfoldable pub highlight : Json
highlight = single (codes "set_tweak") (json.Text (codes "highlight"))

abbrev pub actions_of : Does → List Json
actions_of deeds.Nothing = []
actions_of deeds.Notify = notify ∷ []
actions_of deeds.Sound = notify ∷ sound (codes "default") ∷ []
actions_of deeds.Ring = notify ∷ sound (codes "ring") ∷ []
actions_of deeds.Highlight = notify ∷ highlight ∷ []
actions_of deeds.SoundAndHighlight = notify ∷ sound (codes "default") ∷ highlight ∷ []

-- Conditions as JSON.

-- the text at a dotted path fits a pattern
unfoldable pub event_match : List ℕ → List ℕ → Json
event_match key pattern = json.Object (
    member (codes "key") (json.Text key)
    ∷ member (codes "kind") (json.Text (codes "event_match"))
    ∷ member (codes "pattern") (json.Text pattern)
    ∷ [])

-- what stands at a dotted path is a value, or has it
abbrev pub property : List ℕ → List ℕ → Json → Json
property kind key value = json.Object (
    member (codes "key") (json.Text key)
    ∷ member (codes "kind") (json.Text kind)
    ∷ member (codes "value") value
    ∷ [])

-- the user is among those who are mentioned
unfoldable pub mentions : List ℕ → Json
mentions user = property (codes "event_property_contains") (codes "content.m\\.mentions.user_ids") (json.Text user)

unfoldable pub mentions_room : Json
mentions_room = property (codes "event_property_is") (codes "content.m\\.mentions.room") (json.Bool true)

unfoldable pub is_edit : Json
is_edit = property (codes "event_property_is") (codes "content.m\\.relates_to.rel_type") (json.Text (codes "m.replace"))

unfoldable pub display_name : Json
display_name = single (codes "kind") (json.Text (codes "contains_display_name"))

unfoldable pub two_members : Json
two_members = json.Object (
    member (codes "is") (json.Text (codes "2"))
    ∷ member (codes "kind") (json.Text (codes "room_member_count"))
    ∷ [])

unfoldable pub may_notify_room : Json
may_notify_room = json.Object (
    member (codes "key") (json.Text (codes "room"))
    ∷ member (codes "kind") (json.Text (codes "sender_notification_permission"))
    ∷ [])

-- the conditions of a default rule of a user
abbrev pub conditions_of : List ℕ → Builtin → List Json
conditions_of user builtins.Master = []
conditions_of user builtins.SuppressNotices = event_match (codes "content.msgtype") (codes "m.notice") ∷ []
conditions_of user builtins.InviteForMe =
    event_match (codes "type") (codes "m.room.member")
    ∷ event_match (codes "content.membership") (codes "invite")
    ∷ event_match (codes "state_key") user
    ∷ []
conditions_of user builtins.MemberEvent = event_match (codes "type") (codes "m.room.member") ∷ []
conditions_of user builtins.IsUserMention = mentions user ∷ []
conditions_of user builtins.ContainsDisplayName = display_name ∷ []
conditions_of user builtins.IsRoomMention = mentions_room ∷ may_notify_room ∷ []
conditions_of user builtins.RoomNotif = event_match (codes "content.body") (codes "@room") ∷ may_notify_room ∷ []
conditions_of user builtins.Tombstone = event_match (codes "type") (codes "m.room.tombstone") ∷ event_match (codes "state_key") [] ∷ []
conditions_of user builtins.Reaction = event_match (codes "type") (codes "m.reaction") ∷ []
conditions_of user builtins.SuppressEdits = is_edit ∷ []
conditions_of user builtins.Call = event_match (codes "type") (codes "m.call.invite") ∷ []
conditions_of user builtins.RoomOneToOne = two_members ∷ event_match (codes "type") (codes "m.room.message") ∷ []
conditions_of user builtins.Message = event_match (codes "type") (codes "m.room.message") ∷ []
