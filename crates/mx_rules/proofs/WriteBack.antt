-- A content that says rules is what is written of them.
use Rattle.std.proofs.Common.{ℕ, ◌≡◌, Bool, true, false, List, [], ◌∷◌, map, Option, Some, None, option_map, option_and_then, codes, if◌then◌else◌, refl, sym, ap, ap₂, subst, ◌∙◌}
use Rattle.std.proofs.lemmas.Option.{option_and_then_some, same_Some}
use Rattle.std.proofs.lemmas.Slice.Eq.{bytes_eq-Decides}
use Rattle.std.specs.Map.{keys_of}
use Rattle.std.specs.Str.{bytes_eq}
use Rattle.mx_json.specs.Fields.{bool_in, bool_of, list_in, list_of, text_in, text_of}
use Rattle.mx_json.specs.declared.members.Member.{Member}
use Rattle.mx_json.specs.declared.value.Json.{Json, out-Json}
use Rattle.mx_json.specs.declared.value.Json.TheOpen.{Json-F}
use Rattle.mx_json.specs.declared.value.Json.TheVariants as json
use Rattle.mx_json.specs.declared.value.Json.TheVariants.{rolls-Bool, rolls-List, rolls-Object, rolls-Text}
use Rattle.mx_json.specs.declared.value.Json.TheViews.{roll-Json, roll-out-Json}
use Rattle.mx_rules.specs.Edits.{Entries}
use Rattle.mx_rules.specs.Laws.{ContentIsWritten, HasOwnIds}
use Rattle.mx_rules.specs.Reading.{Lists, are_new, asks_conditions, asks_nothing, asks_pattern, bool_named, each, entries_in, entry_in, kinds_by, list_named, lists_by, lists_in, named, object_of, once, rule_from, rules_by, rules_in, text_named}
use Rattle.mx_rules.specs.Rules.{Rules}
use Rattle.mx_rules.specs.Writing.{content_of, entry_json, kinds_json, list_json, member, plain_members, single, with_conditions, with_nothing, with_pattern}
use Rattle.mx_rules.specs.declared.rule.Rule.{Rule}
use Rattle.mx_rules.proofs.FiveParts.{Parts, parts_of}
use Rattle.mx_rules.proofs.ReadBack.{lists_from, object_in, rules_from}

-- What is seen as a list, a text, a truth value or an object is one.

list_at : (y : Json-F Json) (js : List Json) → list_in y ≡ Some js → json.List js ≡ roll-Json y
list_at Json-F.Null js is = absurd cc
list_at (Json-F.Bool b) js is = absurd cc
list_at (Json-F.Int z) js is = absurd cc
list_at (Json-F.Text t) js is = absurd cc
list_at (Json-F.List ks) js is = sym (rolls-List ks ∙ ap json.List (same_Some ks js is))
list_at (Json-F.Object ms) js is = absurd cc

text_at : (y : Json-F Json) (t : List ℕ) → text_in y ≡ Some t → json.Text t ≡ roll-Json y
text_at Json-F.Null t is = absurd cc
text_at (Json-F.Bool b) t is = absurd cc
text_at (Json-F.Int z) t is = absurd cc
text_at (Json-F.Text u) t is = sym (rolls-Text u ∙ ap json.Text (same_Some u t is))
text_at (Json-F.List ks) t is = absurd cc
text_at (Json-F.Object ms) t is = absurd cc

bool_at : (y : Json-F Json) (b : Bool) → bool_in y ≡ Some b → json.Bool b ≡ roll-Json y
bool_at Json-F.Null b is = absurd cc
bool_at (Json-F.Bool c) b is = sym (rolls-Bool c ∙ ap json.Bool (same_Some c b is))
bool_at (Json-F.Int z) b is = absurd cc
bool_at (Json-F.Text u) b is = absurd cc
bool_at (Json-F.List ks) b is = absurd cc
bool_at (Json-F.Object ms) b is = absurd cc

object_at : (y : Json-F Json) (ms : List (Member Json)) → object_in y ≡ Some ms → json.Object ms ≡ roll-Json y
object_at Json-F.Null ms is = absurd cc
object_at (Json-F.Bool c) ms is = absurd cc
object_at (Json-F.Int z) ms is = absurd cc
object_at (Json-F.Text u) ms is = absurd cc
object_at (Json-F.List ks) ms is = absurd cc
object_at (Json-F.Object ns) ms is = sym (rolls-Object ns ∙ ap json.Object (same_Some ns ms is))

is_list : (j : Json) (js : List Json) → list_of j ≡ Some js → json.List js ≡ j
is_list j js is = list_at (out-Json j) js is ∙ roll-out-Json j

is_text : (j : Json) (t : List ℕ) → text_of j ≡ Some t → json.Text t ≡ j
is_text j t is = text_at (out-Json j) t is ∙ roll-out-Json j

is_bool : (j : Json) (b : Bool) → bool_of j ≡ Some b → json.Bool b ≡ j
is_bool j b is = bool_at (out-Json j) b is ∙ roll-out-Json j

is_members : (j : Json) (ms : List (Member Json)) → object_of j ≡ Some ms → json.Object ms ≡ j
is_members j ms is = object_at (out-Json j) ms is ∙ roll-out-Json j

-- a member that has a key, and a value that is seen as something
module _ {A : Type 0} (see : Json → Option A) (make : A → Json) (is_made : (j : Json) (a : A) → see j ≡ Some a → make a ≡ j) where
  is_member : (key : List ℕ) (m : Member Json) (a : A) → option_and_then see (named key m) ≡ Some a → member key (make a) ≡ m
  is_member key m a is = by_test (bytes_eq m.key key) refl is
    where
      by_test : (b : Bool) → bytes_eq m.key key ≡ b → option_and_then see (if b then Some m.value else None) ≡ Some a → member key (make a) ≡ m
      by_test true same seen = ap₂ member (sym ((bytes_eq-Decides m.key key).0 same)) (is_made m.value a seen)
      by_test false other seen = absurd cc

list_member : (key : List ℕ) (m : Member Json) (js : List Json) → list_named key m ≡ Some js → member key (json.List js) ≡ m
list_member = is_member list_of json.List is_list

text_member : (key : List ℕ) (m : Member Json) (t : List ℕ) → text_named key m ≡ Some t → member key (json.Text t) ≡ m
text_member = is_member text_of json.Text is_text

bool_member : (key : List ℕ) (m : Member Json) (b : Bool) → bool_named key m ≡ Some b → member key (json.Bool b) ≡ m
bool_member = is_member bool_of json.Bool is_bool

-- the rule of five parts
module _ {T : Type 0} where
  -- what these members say of a rule is written as they are
  record IsPlain (a d n i : Member Json) (e : List ℕ × Rule T) : Type 0 where
    actions : member (codes "actions") (json.List e.1.actions) ≡ a
    default : member (codes "default") (json.Bool e.1.default) ≡ d
    enabled : member (codes "enabled") (json.Bool e.1.enabled) ≡ n
    id : member (codes "rule_id") (json.Text e.0) ≡ i

  is_plain : (a d n i : Member Json) (test : Option T) (e : List ℕ × Rule T)
      → Parts rule_from (list_named (codes "actions") a) (bool_named (codes "default") d) (bool_named (codes "enabled") n) (text_named (codes "rule_id") i) test e → IsPlain a d n i e
  is_plain a d n i test e p = record {
    actions = list_member (codes "actions") a e.1.actions (p.first ∙ ap (λ x. Some x.1.actions) p.made);
    default = bool_member (codes "default") d e.1.default (p.second ∙ ap (λ x. Some x.1.default) p.made);
    enabled = bool_member (codes "enabled") n e.1.enabled (p.third ∙ ap (λ x. Some x.1.enabled) p.made);
    id = text_member (codes "rule_id") i e.0 (p.fourth ∙ ap (λ x. Some x.0) p.made);
  }

  tested : (o : Option (List Json)) (p q : Option Bool) (r : Option (List ℕ)) (test : Option T) (e : List ℕ × Rule T) → Parts rule_from o p q r test e → test ≡ Some e.1.test
  tested o p q r test e parts = parts.fifth ∙ ap (λ x. Some x.1.test) parts.made

conditions_are : (ms : List (Member Json)) (e : List ℕ × Rule (List Json)) → asks_conditions ms ≡ Some e → with_conditions e.1.test (plain_members e.0 e.1) ≡ ms
conditions_are [] e is = absurd cc
conditions_are (a ∷ []) e is = absurd cc
conditions_are (a ∷ c ∷ []) e is = absurd cc
conditions_are (a ∷ c ∷ d ∷ []) e is = absurd cc
conditions_are (a ∷ c ∷ d ∷ n ∷ []) e is = absurd cc
conditions_are (a ∷ c ∷ d ∷ n ∷ i ∷ []) e is =
    let parts = parts_of rule_from _ _ _ _ (list_named (codes "conditions") c) e is in
    let plain = is_plain a d n i _ e parts in
    let asked = list_member (codes "conditions") c e.1.test (tested _ _ _ _ _ e parts) in
    λ k. plain.actions k ∷ asked k ∷ plain.default k ∷ plain.enabled k ∷ plain.id k ∷ []
conditions_are (a ∷ c ∷ d ∷ n ∷ i ∷ m ∷ ms) e is = absurd cc

pattern_is : (ms : List (Member Json)) (e : List ℕ × Rule (List ℕ)) → asks_pattern ms ≡ Some e → with_pattern e.1.test (plain_members e.0 e.1) ≡ ms
pattern_is [] e is = absurd cc
pattern_is (a ∷ []) e is = absurd cc
pattern_is (a ∷ d ∷ []) e is = absurd cc
pattern_is (a ∷ d ∷ n ∷ []) e is = absurd cc
pattern_is (a ∷ d ∷ n ∷ p ∷ []) e is = absurd cc
pattern_is (a ∷ d ∷ n ∷ p ∷ i ∷ []) e is =
    let parts = parts_of rule_from _ _ _ _ (text_named (codes "pattern") p) e is in
    let plain = is_plain a d n i _ e parts in
    let asked = text_member (codes "pattern") p e.1.test (tested _ _ _ _ _ e parts) in
    λ k. plain.actions k ∷ plain.default k ∷ plain.enabled k ∷ asked k ∷ plain.id k ∷ []
pattern_is (a ∷ d ∷ n ∷ p ∷ i ∷ m ∷ ms) e is = absurd cc

nothing_is : (ms : List (Member Json)) (e : List ℕ × Rule (Unit {0})) → asks_nothing ms ≡ Some e → with_nothing e.1.test (plain_members e.0 e.1) ≡ ms
nothing_is [] e is = absurd cc
nothing_is (a ∷ []) e is = absurd cc
nothing_is (a ∷ d ∷ []) e is = absurd cc
nothing_is (a ∷ d ∷ n ∷ []) e is = absurd cc
nothing_is (a ∷ d ∷ n ∷ i ∷ []) e is =
    let plain = is_plain a d n i _ e (parts_of rule_from _ _ _ _ (Some tt) e is) in
    λ k. plain.actions k ∷ plain.default k ∷ plain.enabled k ∷ plain.id k ∷ []
nothing_is (a ∷ d ∷ n ∷ i ∷ m ∷ ms) e is = absurd cc

-- the rules of a list are written as the list, and no id stands twice
record AreWritten {T : Type 0} (put : T → List (Member Json) → List (Member Json)) (js : List Json) (es : Entries T) : Type 0 where
  new : are_new [] (keys_of es) ≡ true
  same : map (entry_json put) es ≡ js

module _ {T : Type 0} (asks : List (Member Json) → Option (List ℕ × Rule T)) (put : T → List (Member Json) → List (Member Json))
    (is_put : (ms : List (Member Json)) (e : List ℕ × Rule T) → asks ms ≡ Some e → put e.1.test (plain_members e.0 e.1) ≡ ms) where
  entry_is : (j : Json) (e : List ℕ × Rule T) → entry_in asks j ≡ Some e → entry_json put e ≡ j
  entry_is j e is = option_and_then_some asks (object_of j) e is (λ ms found said. ap json.Object (is_put ms e said) ∙ is_members j ms found)

  each_is : (js : List Json) (es : Entries T) → each (entry_in asks) js ≡ Some es → map (entry_json put) es ≡ js
  each_is [] es is = ap (map (entry_json put)) (sym (same_Some [] es is))
  each_is (j ∷ js) es is = by_parts (entry_in asks j) (each (entry_in asks) js) (entry_is j) (each_is js) is
    where
      by_parts : (o : Option (List ℕ × Rule T)) (p : Option (Entries T)) → ((e : List ℕ × Rule T) → o ≡ Some e → entry_json put e ≡ j) → ((fs : Entries T) → p ≡ Some fs → map (entry_json put) fs ≡ js)
          → option_and_then (λ e. option_map (λ fs. e ∷ fs) p) o ≡ Some es → map (entry_json put) es ≡ j ∷ js
      by_parts None p first rest both = absurd cc
      by_parts (Some e) None first rest both = absurd cc
      by_parts (Some e) (Some fs) first rest both = ap (map (entry_json put)) (sym (same_Some (e ∷ fs) es both)) ∙ ap₂ (λ x xs. x ∷ xs) (first e refl) (rest fs refl)

  entries_are : (js : List Json) (es : Entries T) → entries_in asks js ≡ Some es → AreWritten put js es
  entries_are js es is = option_and_then_some once (each (entry_in asks) js) es is (λ fs found. by_test fs (are_new [] (keys_of fs)) refl found)
    where
      by_test : (fs : Entries T) (b : Bool) → are_new [] (keys_of fs) ≡ b → each (entry_in asks) js ≡ Some fs → (if b then Some fs else None) ≡ Some es → AreWritten put js es
      by_test fs true new found kept =
          let same = same_Some fs es kept in
          record { new = subst (λ l. are_new [] (keys_of l) ≡ true) same new; same = each_is js es (found ∙ ap Some same) }
      by_test fs false old found kept = absurd cc

-- the lists of the kinds
lists_are : (ms : List (Member Json)) (l : Lists) → lists_by ms ≡ Some l
    → member (codes "content") (json.List l.content) ∷ member (codes "override") (json.List l.override_rules) ∷ member (codes "room") (json.List l.room)
    ∷ member (codes "sender") (json.List l.sender) ∷ member (codes "underride") (json.List l.underride) ∷ [] ≡ ms
lists_are [] l is = absurd cc
lists_are (c ∷ []) l is = absurd cc
lists_are (c ∷ o ∷ []) l is = absurd cc
lists_are (c ∷ o ∷ r ∷ []) l is = absurd cc
lists_are (c ∷ o ∷ r ∷ s ∷ []) l is = absurd cc
lists_are (c ∷ o ∷ r ∷ s ∷ u ∷ []) l is =
    let parts = parts_of lists_from _ _ _ _ (list_named (codes "underride") u) l is in
    let content = list_member (codes "content") c l.content (parts.first ∙ ap (λ x. Some x.content) parts.made) in
    let overrides = list_member (codes "override") o l.override_rules (parts.second ∙ ap (λ x. Some x.override_rules) parts.made) in
    let room = list_member (codes "room") r l.room (parts.third ∙ ap (λ x. Some x.room) parts.made) in
    let sender = list_member (codes "sender") s l.sender (parts.fourth ∙ ap (λ x. Some x.sender) parts.made) in
    let underride = list_member (codes "underride") u l.underride (parts.fifth ∙ ap (λ x. Some x.underride) parts.made) in
    λ k. content k ∷ overrides k ∷ room k ∷ sender k ∷ underride k ∷ []
lists_are (c ∷ o ∷ r ∷ s ∷ u ∷ m ∷ ms) l is = absurd cc

-- an object of the lists, at the one key
abbrev listed : Lists → Json
listed l = single (codes "global") (json.Object (
    member (codes "content") (json.List l.content) ∷ member (codes "override") (json.List l.override_rules) ∷ member (codes "room") (json.List l.room)
    ∷ member (codes "sender") (json.List l.sender) ∷ member (codes "underride") (json.List l.underride) ∷ []))

kinds_are : (ms : List (Member Json)) (l : Lists) → kinds_by ms ≡ Some l → listed l ≡ json.Object ms
kinds_are [] l is = absurd cc
kinds_are (g ∷ []) l is = option_and_then_some lists_by (option_and_then object_of (named (codes "global") g)) l is (λ ms found said.
    ap (λ ns. single (codes "global") (json.Object ns)) (lists_are ms l said) ∙ ap (λ m. json.Object (m ∷ [])) (is_member object_of json.Object is_members (codes "global") g ms found))
kinds_are (g ∷ m ∷ ms) l is = absurd cc

listed_is : (j : Json) (l : Lists) → lists_in j ≡ Some l → listed l ≡ j
listed_is j l is = option_and_then_some kinds_by (object_of j) l is (λ ms found said. kinds_are ms l said ∙ is_members j ms found)

-- what is written of the rules of lists
rules_are : (l : Lists) (rs : Rules) → rules_by l ≡ Some rs → HasOwnIds rs × (content_of rs ≡ listed l)
rules_are l rs is =
    let parts = parts_of rules_from _ _ _ _ (entries_in asks_conditions l.underride) rs is in
    let overrides = entries_are asks_conditions with_conditions conditions_are l.override_rules rs.override_rules (parts.first ∙ ap (λ x. Some x.override_rules) parts.made) in
    let content = entries_are asks_pattern with_pattern pattern_is l.content rs.content (parts.second ∙ ap (λ x. Some x.content) parts.made) in
    let room = entries_are asks_nothing with_nothing nothing_is l.room rs.room (parts.third ∙ ap (λ x. Some x.room) parts.made) in
    let sender = entries_are asks_nothing with_nothing nothing_is l.sender rs.sender (parts.fourth ∙ ap (λ x. Some x.sender) parts.made) in
    let underride = entries_are asks_conditions with_conditions conditions_are l.underride rs.underride (parts.fifth ∙ ap (λ x. Some x.underride) parts.made) in (
      record { override_rules = overrides.new; content = content.new; room = room.new; sender = sender.new; underride = underride.new },
      (λ k. listed (lists_from (content.same k) (overrides.same k) (room.same k) (sender.same k) (underride.same k))),
    )

pub content_is_written : ContentIsWritten
content_is_written j rs is = option_and_then_some rules_by (lists_in j) rs is (λ l found said. let p = rules_are l rs said in (p.0, p.1 ∙ listed_is j l found))
