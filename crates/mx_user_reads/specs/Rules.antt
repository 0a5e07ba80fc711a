-- A user's push rules, and one of them (Client-Server API, Push rules).
use Rattle.std.specs.Prelude.{ℕ, Bool, List, length, Option, option_map, codes, if◌then◌else◌}
use Rattle.mx_ask.specs.declared.said.Said.{Said}
use Rattle.mx_ask.specs.declared.said.Said.TheVariants as said
use Rattle.mx_fold.specs.Lists.{Lists}
use Rattle.mx_json.specs.declared.members.Member.{Member}
use Rattle.mx_json.specs.declared.value.Json.{Json}
use Rattle.mx_json.specs.declared.value.Json.TheVariants as json
use Rattle.mx_rules.specs.Edits.{Entries, find}
use Rattle.mx_rules.specs.Rules.{Rules, of_kind}
use Rattle.mx_rules.specs.Writing.{content_of, entry_json, kinds_json, single, with_conditions, with_nothing, with_pattern}
use Rattle.mx_rules.specs.declared.rule.Kind.{Kind}
use Rattle.mx_rules.specs.declared.rule.Kind.TheVariants as kinds
use Rattle.mx_room_reads.specs.Unread.Unread.{rules_at}
use Rattle.mx_user_reads.specs.Told.{told}

-- those that are stored, or the default ones
abbrev pub rules_now : Lists → List ℕ → Rules
rules_now l user = rules_at user (length l.accounts) l.accounts

-- all rules, or the value of `global` alone
unfoldable pub push_rules : Lists → List ℕ → Bool → Said
push_rules l user inner = said.Content (if inner then kinds_json (rules_now l user) else content_of (rules_now l user))

abbrev pub rules_json : Bool → Rules → Json
rules_json inner rs = if inner then kinds_json rs else content_of rs

-- the object of the rule of an id among those of a kind, if there is one
abbrev pub json_in : {T : Type 0} → (T → List (Member Json) → List (Member Json)) → List ℕ → Entries T → Option Json
json_in asks id es = option_map (λ r. entry_json asks (id, r)) (find id es)

abbrev pub rule_json : Kind → List ℕ → Rules → Option Json
rule_json kinds.Override id rs = json_in with_conditions id rs.override_rules
rule_json kinds.Content id rs = json_in with_pattern id rs.content
rule_json kinds.Room id rs = json_in with_nothing id rs.room
rule_json kinds.Sender id rs = json_in with_nothing id rs.sender
rule_json kinds.Underride id rs = json_in with_conditions id rs.underride

unfoldable pub push_rule : Lists → List ℕ → Kind → List ℕ → Said
push_rule l user kind id = told (rule_json kind id (rules_now l user))

-- whether the rule of an id is enabled, and its actions, if it is there
abbrev pub enabled_of : Kind → List ℕ → Rules → Option Bool
enabled_of kind id rs = of_kind kind (λ T es. option_map (λ r. r.enabled) (find id es)) rs

abbrev pub actions_of : Kind → List ℕ → Rules → Option (List Json)
actions_of kind id rs = of_kind kind (λ T es. option_map (λ r. r.actions) (find id es)) rs

abbrev pub enabled_json : Option Bool → Option Json
enabled_json o = option_map (λ b. single (codes "enabled") (json.Bool b)) o

abbrev pub actions_json : Option (List Json) → Option Json
actions_json o = option_map (λ js. single (codes "actions") (json.List js)) o

unfoldable pub rule_enabled : Lists → List ℕ → Kind → List ℕ → Said
rule_enabled l user kind id = told (enabled_json (enabled_of kind id (rules_now l user)))

unfoldable pub rule_actions : Lists → List ℕ → Kind → List ℕ → Said
rule_actions l user kind id = told (actions_json (actions_of kind id (rules_now l user)))
