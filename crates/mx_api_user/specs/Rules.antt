-- Push rules (Client-Server API, Push Rules: API).
use Rattle.std.specs.Prelude.{ℕ, List, Bool, Option, Some, None, option_map, option_and_then, codes, if◌then◌else◌}
use Rattle.std.specs.Str.{bytes_eq}
use Rattle.mx_json.specs.Fields.{bool_of, field}
use Rattle.mx_json.specs.declared.value.Json.{Json}
use Rattle.mx_rules.specs.declared.rule.Kind.{Kind}
use Rattle.mx_rules.specs.declared.rule.Kind.TheVariants as kinds
use Rattle.mx_ask.specs.declared.ask.Ask.TheVariants as ask
use Rattle.mx_ask.specs.declared.ask.Who.{Who}
use Rattle.mx_http.specs.Queries.{parameter}
use Rattle.mx_api.specs.Bodies.{object_of}
use Rattle.mx_api.specs.Calls.{asked_by, request}
use Rattle.mx_api.specs.Parts.{asked_of, four_parts, three_parts}
use Rattle.mx_api.specs.declared.asked.Asked.{Asked}
use Rattle.mx_api.specs.declared.asked.Asked.TheVariants as asked
use Rattle.mx_api.specs.declared.authenticated.Authenticated.{Authenticated}
use Rattle.mx_api.specs.declared.refused.Field.TheVariants as fields
use Rattle.mx_api.specs.declared.refused.Refused.TheVariants as refused

-- ---- GET /pushrules/ and /pushrules/global/

-- all rules, or those of the global set alone
abbrev pub rules_asked : Who → Bool → Asked
rules_asked who inner = request who (ask.PushRules inner)

-- ---- the rule that a path names

abbrev pub kind_of : List ℕ → Option Kind
kind_of word =
    if bytes_eq word (codes "override") then Some kinds.Override
    else (if bytes_eq word (codes "content") then Some kinds.Content
    else (if bytes_eq word (codes "room") then Some kinds.Room
    else (if bytes_eq word (codes "sender") then Some kinds.Sender
    else (if bytes_eq word (codes "underride") then Some kinds.Underride else None))))

-- the kind of a rule and its id, where the kind is known
abbrev pub named : List ℕ → List ℕ → Option (Kind × List ℕ)
named word id = option_map (λ kind. (kind, id)) (kind_of word)

-- by the parts `global`, `{kind}`, `{ruleId}`
abbrev pub rule_of_three : List (List ℕ) → Option (Kind × List ℕ)
rule_of_three parts = option_and_then (λ p. named p.1 p.2) (three_parts parts)

-- by these parts and one more
abbrev pub rule_of_four : List (List ℕ) → Option (Kind × List ℕ)
rule_of_four parts = option_and_then (λ p. named p.1 p.2) (four_parts parts)

-- ---- GET, PUT and DELETE /pushrules/global/{kind}/{ruleId}

abbrev pub rule_put : Who → Kind × List ℕ → List (List ℕ × List ℕ) → Json → Asked
rule_put who rule query body = request who (ask.PutRule rule.0 rule.1 body (parameter (codes "before") query) (parameter (codes "after") query))

-- what a method asks of a rule: to read it, to take it away, or to put an object
abbrev pub rule_by : List ℕ → Who → List (List ℕ × List ℕ) → List ℕ → Kind × List ℕ → Asked
rule_by method who query body rule =
    if bytes_eq method (codes "GET") then request who (ask.GetRule rule.0 rule.1)
    else (if bytes_eq method (codes "DELETE") then request who (ask.DeleteRule rule.0 rule.1)
    else asked_by (rule_put who rule query) (object_of body))

unfoldable pub rule_asked : List ℕ → Authenticated → List ℕ → Asked
rule_asked method call body = asked_of (rule_by method call.who call.query body) (rule_of_three call.parts)

-- ---- GET and PUT /pushrules/global/{kind}/{ruleId}/enabled

-- the truth value `enabled` of a body
abbrev pub enabled_in : Json → Option Bool
enabled_in body = option_and_then bool_of (field (codes "enabled") body)

abbrev pub enabled_put : Who → Kind × List ℕ → Option Bool → Asked
enabled_put who rule None = asked.Refused (refused.BadShape fields.Enabled)
enabled_put who rule (Some on) = request who (ask.PutEnabled rule.0 rule.1 on)

abbrev pub enabled_by : List ℕ → Who → List ℕ → Kind × List ℕ → Asked
enabled_by method who body rule =
    if bytes_eq method (codes "GET") then request who (ask.GetEnabled rule.0 rule.1)
    else asked_by (λ content. enabled_put who rule (enabled_in content)) (object_of body)

unfoldable pub enabled_asked : List ℕ → Authenticated → List ℕ → Asked
enabled_asked method call body = asked_of (enabled_by method call.who body) (rule_of_four call.parts)

-- ---- GET and PUT /pushrules/global/{kind}/{ruleId}/actions

abbrev pub actions_by : List ℕ → Who → List ℕ → Kind × List ℕ → Asked
actions_by method who body rule =
    if bytes_eq method (codes "GET") then request who (ask.GetActions rule.0 rule.1)
    else asked_by (λ content. request who (ask.PutActions rule.0 rule.1 content)) (object_of body)

unfoldable pub actions_asked : List ℕ → Authenticated → List ℕ → Asked
actions_asked method call body = asked_of (actions_by method call.who body) (rule_of_four call.parts)
