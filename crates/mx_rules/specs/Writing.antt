-- The JSON of push rules (Client-Server API, GET /pushrules/).
use Rattle.std.specs.Prelude.{ℕ, List, [], ◌∷◌, map, codes}
use Rattle.mx_json.specs.Keys.{with_member}
use Rattle.mx_json.specs.declared.members.Member.{Member}
use Rattle.mx_json.specs.declared.value.Json.{Json}
use Rattle.mx_json.specs.declared.value.Json.TheVariants as json
use Rattle.mx_rules.specs.Edits.{Entries}
use Rattle.mx_rules.specs.Rules.{Rules}
use Rattle.mx_rules.specs.declared.rule.Rule.{Rule}

abbrev pub member : List ℕ → Json → Member Json
member key value = record { key = key; value = value }

-- an object with one key
abbrev pub single : List ℕ → Json → Json
single key value = json.Object (member key value ∷ [])

-- what every rule's object has
abbrev pub plain_members : {T : Type 0} → List ℕ → Rule T → List (Member Json)
plain_members id r =
    member (codes "actions") (json.List r.actions)
    ∷ member (codes "default") (json.Bool r.default)
    ∷ member (codes "enabled") (json.Bool r.enabled)
    ∷ member (codes "rule_id") (json.Text id)
    ∷ []

-- what every rule's object has, set among members
abbrev pub with_plain : {T : Type 0} → List ℕ → Rule T → List (Member Json) → List (Member Json)
with_plain id r ms =
    with_member (codes "rule_id") (json.Text id)
    (with_member (codes "enabled") (json.Bool r.enabled)
    (with_member (codes "default") (json.Bool r.default)
    (with_member (codes "actions") (json.List r.actions) ms)))

-- the object of a rule, with what the rule asks among its members
abbrev pub entry_json : {T : Type 0} → (T → List (Member Json) → List (Member Json)) → List ℕ × Rule T → Json
entry_json asks e = json.Object (asks e.1.test (plain_members e.0 e.1))

abbrev pub list_json : {T : Type 0} → (T → List (Member Json) → List (Member Json)) → Entries T → Json
list_json asks es = json.List (map (entry_json asks) es)

-- conditions, a pattern, or nothing among the members of a rule
abbrev pub with_conditions : List Json → List (Member Json) → List (Member Json)
with_conditions js ms = with_member (codes "conditions") (json.List js) ms

abbrev pub with_pattern : List ℕ → List (Member Json) → List (Member Json)
with_pattern t ms = with_member (codes "pattern") (json.Text t) ms

abbrev pub with_nothing : Unit {0} → List (Member Json) → List (Member Json)
with_nothing u ms = ms

abbrev pub kinds_json : Rules → Json
kinds_json rs = json.Object (
    member (codes "content") (list_json with_pattern rs.content)
    ∷ member (codes "override") (list_json with_conditions rs.override_rules)
    ∷ member (codes "room") (list_json with_nothing rs.room)
    ∷ member (codes "sender") (list_json with_nothing rs.sender)
    ∷ member (codes "underride") (list_json with_conditions rs.underride)
    ∷ [])

-- the list of the rules of each kind, set among members
abbrev pub with_kinds : Rules → List (Member Json) → List (Member Json)
with_kinds rs ms =
    with_member (codes "underride") (list_json with_conditions rs.underride)
    (with_member (codes "sender") (list_json with_nothing rs.sender)
    (with_member (codes "room") (list_json with_nothing rs.room)
    (with_member (codes "override") (list_json with_conditions rs.override_rules)
    (with_member (codes "content") (list_json with_pattern rs.content) ms))))

-- the content of `m.push_rules`
abbrev pub content_of : Rules → Json
content_of rs = single (codes "global") (kinds_json rs)
