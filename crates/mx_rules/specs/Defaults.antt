-- The default rules of a user (Client-Server API, Push rules, Predefined Rules), kind by kind.
use Rattle.std.specs.Prelude.{ℕ, ◌==◌, true, List, [], ◌∷◌, map, codes}
use Rattle.std.specs.List.{after_first, before_first}
use Rattle.indexmap.specs.IndexMap.{insert_all, insert_entry}
use Rattle.mx_json.specs.declared.value.Json.{Json}
use Rattle.mx_rules.specs.Builtins.{actions_of, conditions_of, does, id_of, is_on}
use Rattle.mx_rules.specs.Edits.{Entries, is_id}
use Rattle.mx_rules.specs.Rules.{Rules}
use Rattle.mx_rules.specs.declared.builtin.Builtin.{Builtin}
use Rattle.mx_rules.specs.declared.builtin.Builtin.TheVariants as builtins
use Rattle.mx_rules.specs.declared.builtin.Does.TheVariants as deeds
use Rattle.mx_rules.specs.declared.rule.Rule.{Rule}

abbrev pub default_rule : List ℕ → Builtin → Rule (List Json)
default_rule user b = record { default = true; enabled = is_on b; actions = actions_of (does b); test = conditions_of user b }

abbrev pub default_entry : List ℕ → Builtin → List ℕ × Rule (List Json)
default_entry user b = (id_of b, default_rule user b)

abbrev pub overrides : List Builtin
overrides =
    builtins.Master ∷ builtins.SuppressNotices ∷ builtins.InviteForMe ∷ builtins.MemberEvent ∷ builtins.IsUserMention
    ∷ builtins.ContainsDisplayName ∷ builtins.IsRoomMention ∷ builtins.RoomNotif ∷ builtins.Tombstone ∷ builtins.Reaction
    ∷ builtins.SuppressEdits ∷ []

abbrev pub underrides : List Builtin
underrides = builtins.Call ∷ builtins.RoomOneToOne ∷ builtins.Message ∷ []

abbrev pub entries_by : List ℕ → List Builtin → Entries (List Json)
entries_by user bs = insert_all is_id [] (map (default_entry user) bs)

-- the default rules of a list among other rules
abbrev pub added : List ℕ → List Builtin → Entries (List Json) → Entries (List Json)
added user bs es = insert_all is_id es (map (default_entry user) bs)

-- the part of a user id between the at sign (64) and the first colon (58)
abbrev pub localpart : List ℕ → List ℕ
localpart user = after_first (λ b. b == 64) (before_first (λ b. b == 58) user)

abbrev pub name_rule : List ℕ → Rule (List ℕ)
name_rule user = record { default = true; enabled = true; actions = actions_of deeds.SoundAndHighlight; test = localpart user }

abbrev pub default_rules : List ℕ → Rules
default_rules user = record {
  override_rules = entries_by user overrides;
  content = (codes ".m.rule.contains_user_name", name_rule user) ∷ [];
  room = [];
  sender = [];
  underride = entries_by user underrides;
}

-- the default rules of a user among other rules
abbrev pub with_defaults : List ℕ → Rules → Rules
with_defaults user rs = record {
  override_rules = added user overrides rs.override_rules;
  content = insert_entry is_id rs.content (codes ".m.rule.contains_user_name") (name_rule user);
  room = rs.room;
  sender = rs.sender;
  underride = added user underrides rs.underride;
}
