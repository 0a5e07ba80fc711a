-- What is written of rules is read as the same rules.
use Rattle.std.proofs.Common.{ℕ, ◌≡◌, Bool, true, List, [], ◌∷◌, map, Option, Some, None, option_and_then, codes, if◌then◌else◌, refl, ap, ◌∙◌}
use Rattle.mx_json.specs.Fields.{bool_in, bool_of, is_object_in, list_in, list_of, members_in, text_in, text_of}
use Rattle.mx_json.specs.declared.members.Member.{Member}
use Rattle.mx_json.specs.declared.value.Json.{Json}
use Rattle.mx_json.specs.declared.value.Json.TheOpen.{Json-F}
use Rattle.mx_json.specs.declared.value.Json.TheVariants as json
use Rattle.mx_json.specs.declared.value.Json.TheVariants.{rolls-Bool, rolls-List, rolls-Object, rolls-Text}
use Rattle.mx_json.specs.declared.value.Json.TheViews.{outs-Bool, outs-List, outs-Object, outs-Text}
use Rattle.mx_rules.specs.Edits.{Entries}
use Rattle.std.specs.Map.{keys_of}
use Rattle.mx_rules.specs.Rules.{Rules}
use Rattle.mx_rules.specs.Laws.{ContentReadsBack}
use Rattle.mx_rules.specs.Reading.{Lists, kinds_by, lists_by, lists_in, rules_by, whole, are_new, asks_conditions, asks_nothing, asks_pattern, each, entries_in, entry_in, object_of, once, rule_from}
use Rattle.mx_rules.specs.Writing.{content_of, kinds_json, entry_json, member, plain_members, with_conditions, with_nothing, with_pattern}
use Rattle.mx_rules.specs.declared.rule.Rule.{Rule}
use Rattle.mx_rules.proofs.FiveParts.{all_there}

-- Values of the variants are seen as such.

list_back : (js : List Json) → list_of (json.List js) ≡ Some js
list_back js = ap list_in (outs-List js)

text_back : (t : List ℕ) → text_of (json.Text t) ≡ Some t
text_back t = ap text_in (outs-Text t)

bool_back : (b : Bool) → bool_of (json.Bool b) ≡ Some b
bool_back b = ap bool_in (outs-Bool b)

abbrev pub object_in : Json-F Json → Option (List (Member Json))
object_in y = if is_object_in y then Some (members_in y) else None

object_back : (ms : List (Member Json)) → object_of (json.Object ms) ≡ Some ms
object_back ms = ap object_in (outs-Object ms)

conditions_back : (e : List ℕ × Rule (List Json)) → entry_in asks_conditions (entry_json with_conditions e) ≡ Some e
conditions_back e = ap (option_and_then asks_conditions) (object_back (with_conditions e.1.test (plain_members e.0 e.1)))
    ∙ all_there rule_from e.1.actions e.1.default e.1.enabled e.0 e.1.test _ _ _ _ _ (list_back e.1.actions) (bool_back e.1.default) (bool_back e.1.enabled) (text_back e.0) (list_back e.1.test)

pattern_back : (e : List ℕ × Rule (List ℕ)) → entry_in asks_pattern (entry_json with_pattern e) ≡ Some e
pattern_back e = ap (option_and_then asks_pattern) (object_back (with_pattern e.1.test (plain_members e.0 e.1)))
    ∙ all_there rule_from e.1.actions e.1.default e.1.enabled e.0 e.1.test _ _ _ _ _ (list_back e.1.actions) (bool_back e.1.default) (bool_back e.1.enabled) (text_back e.0) (text_back e.1.test)

nothing_back : (e : List ℕ × Rule (Unit {0})) → entry_in asks_nothing (entry_json with_nothing e) ≡ Some e
nothing_back e = ap (option_and_then asks_nothing) (object_back (plain_members e.0 e.1))
    ∙ all_there rule_from e.1.actions e.1.default e.1.enabled e.0 e.1.test _ _ _ _ _ (list_back e.1.actions) (bool_back e.1.default) (bool_back e.1.enabled) (text_back e.0) refl

module _ {T : Type 0} (asks : List (Member Json) → Option (List ℕ × Rule T)) (write : List ℕ × Rule T → Json) (back : (e : List ℕ × Rule T) → entry_in asks (write e) ≡ Some e) where
  each_back : (es : Entries T) → each (entry_in asks) (map write es) ≡ Some es
  each_back [] = refl
  each_back (e ∷ es) = rw (back e, each_back es) refl

  entries_back : (es : Entries T) → are_new [] (keys_of es) ≡ true → entries_in asks (map write es) ≡ Some es
  entries_back es new = ap (option_and_then once) (each_back es) ∙ rw new refl

-- what is written of rules, list by list
abbrev written : Rules → Lists
written rs = record {
  content = map (entry_json with_pattern) rs.content;
  override_rules = map (entry_json with_conditions) rs.override_rules;
  room = map (entry_json with_nothing) rs.room;
  sender = map (entry_json with_nothing) rs.sender;
  underride = map (entry_json with_conditions) rs.underride;
}

abbrev pub lists_from : (content override_rules room sender underride : List Json) → Lists
lists_from c o r s u = record { content = c; override_rules = o; room = r; sender = s; underride = u }

lists_back : (rs : Rules) → lists_in (content_of rs) ≡ Some (written rs)
lists_back rs =
    ap (option_and_then kinds_by) (object_back (member (codes "global") (kinds_json rs) ∷ []))
    ∙ ap (option_and_then lists_by) (object_back _)
    ∙ all_there lists_from _ _ _ _ _ _ _ _ _ _ (list_back (written rs).content) (list_back (written rs).override_rules) (list_back (written rs).room) (list_back (written rs).sender) (list_back (written rs).underride)

abbrev pub rules_from : Entries (List Json) → Entries (List ℕ) → Entries (Unit {0}) → Entries (Unit {0}) → Entries (List Json) → Rules
rules_from o c r s u = record { override_rules = o; content = c; room = r; sender = s; underride = u }

pub content_reads_back : ContentReadsBack
content_reads_back rs own =
    ap (option_and_then rules_by) (lists_back rs)
    ∙ all_there rules_from rs.override_rules rs.content rs.room rs.sender rs.underride _ _ _ _ _
    (entries_back asks_conditions (entry_json with_conditions) conditions_back rs.override_rules own.override_rules)
    (entries_back asks_pattern (entry_json with_pattern) pattern_back rs.content own.content)
    (entries_back asks_nothing (entry_json with_nothing) nothing_back rs.room own.room)
    (entries_back asks_nothing (entry_json with_nothing) nothing_back rs.sender own.sender)
    (entries_back asks_conditions (entry_json with_conditions) conditions_back rs.underride own.underride)
