-- The rules of a user, kind by kind, and their changes.
use Rattle.std.specs.Prelude.{ℕ, ◌==◌, Bool, false, not, List, [], ◌∷◌, Option, Some, if◌then◌else◌, codes}
use Rattle.mx_json.specs.Fields.{field}
use Rattle.mx_json.specs.declared.value.Json.{Json}
use Rattle.mx_rules.specs.Bodies.{items_of, text_or_none}
use Rattle.mx_rules.specs.Edits.{Entries, action_fault, neighbour_fault, new_rule, no_rule, put_in, with_actions, with_enabled, without}
use Rattle.mx_rules.specs.Forms.{are_actions, is_test}
use Rattle.mx_rules.specs.declared.fault.RuleFault.{RuleFault}
use Rattle.mx_rules.specs.declared.fault.RuleFault.TheVariants as faults
use Rattle.mx_rules.specs.declared.rule.Kind.{Kind}
use Rattle.mx_rules.specs.declared.rule.Kind.TheVariants as kinds
use Rattle.mx_rules.specs.declared.rule_set.RuleSet.{RuleSet}

-- what rules of the kinds ask: conditions, a pattern, or nothing
pub record Rules : Type 0 where
  pub override_rules : Entries (List Json)
  pub content : Entries (List ℕ)
  pub room : Entries (Unit {0})
  pub sender : Entries (Unit {0})
  pub underride : Entries (List Json)

abbrev pub rules_of : RuleSet → Rules
rules_of s = record {
  override_rules = s.override_rules.entries;
  content = s.content.entries;
  room = s.room.entries;
  sender = s.sender.entries;
  underride = s.underride.entries;
}

abbrev pub no_rules : Rules
no_rules = record { override_rules = []; content = []; room = []; sender = []; underride = [] }

-- a change of the rules of each kind
abbrev pub on_kind : Kind → ((T : Type 0) → Entries T → Entries T) → Rules → Rules
on_kind kinds.Override f rs = record rs { override_rules = f (List Json) rs.override_rules }
on_kind kinds.Content f rs = record rs { content = f (List ℕ) rs.content }
on_kind kinds.Room f rs = record rs { room = f (Unit {0}) rs.room }
on_kind kinds.Sender f rs = record rs { sender = f (Unit {0}) rs.sender }
on_kind kinds.Underride f rs = record rs { underride = f (List Json) rs.underride }

-- what is told of the rules of a kind
abbrev pub of_kind : {A : Type 0} → Kind → ((T : Type 0) → Entries T → A) → Rules → A
of_kind kinds.Override f rs = f (List Json) rs.override_rules
of_kind kinds.Content f rs = f (List ℕ) rs.content
of_kind kinds.Room f rs = f (Unit {0}) rs.room
of_kind kinds.Sender f rs = f (Unit {0}) rs.sender
of_kind kinds.Underride f rs = f (List Json) rs.underride

-- the conditions, or the pattern, of a body
abbrev pub conditions_of : Json → List Json
conditions_of body = items_of (field (codes "conditions") body)

abbrev pub pattern_of : Json → List ℕ
pattern_of body = text_or_none (codes "pattern") body

-- the rules with the one of a body among those of its kind
abbrev pub put : Kind → List ℕ → Json → Option (List ℕ) → Option (List ℕ) → Rules → Rules
put kinds.Override id body before after rs =
    record rs { override_rules = put_in id (new_rule (conditions_of body) id body rs.override_rules) before after rs.override_rules }
put kinds.Content id body before after rs = record rs { content = put_in id (new_rule (pattern_of body) id body rs.content) before after rs.content }
put kinds.Room id body before after rs = record rs { room = put_in id (new_rule tt id body rs.room) before after rs.room }
put kinds.Sender id body before after rs = record rs { sender = put_in id (new_rule tt id body rs.sender) before after rs.sender }
put kinds.Underride id body before after rs =
    record rs { underride = put_in id (new_rule (conditions_of body) id body rs.underride) before after rs.underride }

-- an id that begins with a dot (46)
abbrev pub is_default_id : List ℕ → Bool
is_default_id [] = false
is_default_id (c ∷ cs) = c == 46

abbrev pub put_fault : Kind → List ℕ → Json → Option (List ℕ) → Option (List ℕ) → Rules → Option RuleFault
put_fault kind id body before after rs =
    if is_default_id id then Some faults.DefaultRule
    else (if not (is_test kind body) then Some faults.BadCondition
    else (if not (are_actions (field (codes "actions") body)) then Some faults.BadAction
    else of_kind kind (λ T es. neighbour_fault before after es) rs))

abbrev pub removed : Kind → List ℕ → Rules → Rules
removed kind id rs = on_kind kind (λ T es. without id es) rs

abbrev pub no_rule_in : Kind → List ℕ → Rules → Option RuleFault
no_rule_in kind id rs = of_kind kind (λ T es. no_rule id es) rs

abbrev pub remove_fault : Kind → List ℕ → Rules → Option RuleFault
remove_fault kind id rs = if is_default_id id then Some faults.DefaultRule else no_rule_in kind id rs

abbrev pub enabled : Bool → Kind → List ℕ → Rules → Rules
enabled on kind id rs = on_kind kind (λ T es. with_enabled on id es) rs

abbrev pub acted : Json → Kind → List ℕ → Rules → Rules
acted actions kind id rs = on_kind kind (λ T es. with_actions (items_of (Some actions)) id es) rs

abbrev pub actions_fault : Kind → List ℕ → Json → Rules → Option RuleFault
actions_fault kind id actions rs = of_kind kind (λ T es. action_fault id actions es) rs
