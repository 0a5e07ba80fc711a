-- The push rules that a content of `m.push_rules` says (Client-Server API, GET /pushrules/).
use Rattle.std.specs.Prelude.{ℕ, Bool, true, not, ◌&&◌, List, [], ◌∷◌, ◌++◌, Option, Some, None, option_map, option_and_then, is_some, if◌then◌else◌, codes}
use Rattle.std.specs.List.{list_any}
use Rattle.std.specs.Map.{keys_of}
use Rattle.std.specs.Str.{bytes_eq}
use Rattle.indexmap.specs.IndexMap.{insert_entry}
use Rattle.mx_json.specs.Fields.{bool_of, is_object, list_of, members_of, text_of}
use Rattle.mx_json.specs.declared.members.Member.{Member}
use Rattle.mx_json.specs.declared.value.Json.{Json}
use Rattle.mx_rules.specs.Edits.{Entries, find, is_id}
use Rattle.mx_rules.specs.Rules.{Rules}
use Rattle.mx_rules.specs.declared.rule.Rule.{Rule}

-- the members of an object
abbrev pub object_of : Json → Option (List (Member Json))
object_of j = if is_object j then Some (members_of j) else None

-- the value of a member that has the key
abbrev pub named : List ℕ → Member Json → Option Json
named key m = if bytes_eq m.key key then Some m.value else None

abbrev pub list_named : List ℕ → Member Json → Option (List Json)
list_named key m = option_and_then list_of (named key m)

abbrev pub bool_named : List ℕ → Member Json → Option Bool
bool_named key m = option_and_then bool_of (named key m)

abbrev pub text_named : List ℕ → Member Json → Option (List ℕ)
text_named key m = option_and_then text_of (named key m)

abbrev pub rule_from : {T : Type 0} → List Json → Bool → Bool → List ℕ → T → List ℕ × Rule T
rule_from actions default enabled id test = (id, record { default = default; enabled = enabled; actions = actions; test = test })

-- the rule that these members say, and what it asks
abbrev pub rule_by : {T : Type 0} → Member Json → Member Json → Member Json → Member Json → Option T → Option (List ℕ × Rule T)
rule_by actions default enabled id test =
    option_and_then (λ js.
    option_and_then (λ d.
    option_and_then (λ e.
    option_and_then (λ i.
    option_map (rule_from js d e i) test)
    (text_named (codes "rule_id") id))
    (bool_named (codes "enabled") enabled))
    (bool_named (codes "default") default))
    (list_named (codes "actions") actions)

-- the rule without what it asks
abbrev pub bare_from : List Json → Bool → Bool → List ℕ → List ℕ × Rule (Unit {0})
bare_from actions default enabled id = rule_from actions default enabled id tt

abbrev pub bare_by : Member Json → Member Json → Member Json → Member Json → Option (List ℕ × Rule (Unit {0}))
bare_by actions default enabled id = rule_by actions default enabled id (Some tt)

-- the rule that the members of an object say: they are those of the kind's rules, and no others
abbrev pub asks_conditions : List (Member Json) → Option (List ℕ × Rule (List Json))
asks_conditions (a ∷ c ∷ d ∷ e ∷ i ∷ []) = rule_by a d e i (list_named (codes "conditions") c)
asks_conditions ms = None

abbrev pub asks_pattern : List (Member Json) → Option (List ℕ × Rule (List ℕ))
asks_pattern (a ∷ d ∷ e ∷ p ∷ i ∷ []) = rule_by a d e i (text_named (codes "pattern") p)
asks_pattern ms = None

abbrev pub asks_nothing : List (Member Json) → Option (List ℕ × Rule (Unit {0}))
asks_nothing (a ∷ d ∷ e ∷ i ∷ []) = bare_by a d e i
asks_nothing ms = None

-- each item as it is read, where all are
abbrev pub each : {A B : Type 0} → (A → Option B) → List A → Option (List B)
each f [] = Some []
each f (x ∷ xs) = option_and_then (λ y. option_map (λ ys. y ∷ ys) (each f xs)) (f x)

-- no id stands among those before it
abbrev pub are_new : List (List ℕ) → List (List ℕ) → Bool
are_new before [] = true
are_new before (id ∷ ids) = not (list_any (is_id id) before) && are_new (before ++ id ∷ []) ids

abbrev pub once : {T : Type 0} → Entries T → Option (Entries T)
once es = if are_new [] (keys_of es) then Some es else None

-- a rule behind others, and then what comes next
abbrev pub add_entry : {T : Type 0} → Entries T → (Entries T → Option (Entries T)) → List ℕ × Rule T → Option (Entries T)
add_entry es next e = if is_some (find e.0 es) then None else next (insert_entry is_id es e.0 e.1)

module _ {T : Type 0} (asks : List (Member Json) → Option (List ℕ × Rule T)) where
  abbrev pub entry_in : Json → Option (List ℕ × Rule T)
  entry_in j = option_and_then asks (object_of j)

  -- the rules of a list, each of which has another id
  abbrev pub entries_in : List Json → Option (Entries T)
  entries_in js = option_and_then once (each entry_in js)

  -- how the code reads them: one behind the other
  abbrev pub add_all : List Json → Entries T → Option (Entries T)
  add_all [] es = Some es
  add_all (j ∷ js) es = option_and_then (add_entry es (add_all js)) (entry_in j)

-- the lists of the kinds
pub record Lists : Type 0 where
  pub content : List Json
  pub override_rules : List Json
  pub room : List Json
  pub sender : List Json
  pub underride : List Json

abbrev pub lists_by : List (Member Json) → Option Lists
lists_by (c ∷ o ∷ r ∷ s ∷ u ∷ []) =
    option_and_then (λ content.
    option_and_then (λ override_rules.
    option_and_then (λ room.
    option_and_then (λ sender.
    option_map (λ underride. record { content = content; override_rules = override_rules; room = room; sender = sender; underride = underride })
    (list_named (codes "underride") u))
    (list_named (codes "sender") s))
    (list_named (codes "room") r))
    (list_named (codes "override") o))
    (list_named (codes "content") c)
lists_by ms = None

abbrev pub kinds_by : List (Member Json) → Option Lists
kinds_by (g ∷ []) = option_and_then lists_by (option_and_then object_of (named (codes "global") g))
kinds_by ms = None

-- the lists of the kinds in an object with the one key `global`
abbrev pub lists_in : Json → Option Lists
lists_in j = option_and_then kinds_by (object_of j)

abbrev pub whole : Option (Entries (List Json)) → Option (Entries (List ℕ)) → Option (Entries (Unit {0})) → Option (Entries (Unit {0})) → Option (Entries (List Json)) → Option Rules
whole override_rules content room sender underride =
    option_and_then (λ o.
    option_and_then (λ c.
    option_and_then (λ r.
    option_and_then (λ s.
    option_map (λ u. record { override_rules = o; content = c; room = r; sender = s; underride = u })
    underride)
    sender)
    room)
    content)
    override_rules

abbrev pub rules_by : Lists → Option Rules
rules_by l = whole
    (entries_in asks_conditions l.override_rules)
    (entries_in asks_pattern l.content)
    (entries_in asks_nothing l.room)
    (entries_in asks_nothing l.sender)
    (entries_in asks_conditions l.underride)

-- how the code reads them: the rules of each list behind those of its kind
abbrev pub add_lists : Lists → Rules → Option Rules
add_lists l rs = whole
    (add_all asks_conditions l.override_rules rs.override_rules)
    (add_all asks_pattern l.content rs.content)
    (add_all asks_nothing l.room rs.room)
    (add_all asks_nothing l.sender rs.sender)
    (add_all asks_conditions l.underride rs.underride)

-- the rules that a content says
abbrev pub rules_in : Json → Option Rules
rules_in j = option_and_then rules_by (lists_in j)
