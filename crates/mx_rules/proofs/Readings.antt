-- Rules that are read one behind the other.
use Rattle.std.proofs.Common.{ℕ, ◌≡◌, Bool, true, false, ◌||◌, List, [], ◌∷◌, ◌++◌, Option, Some, None, is_some, option_map, option_and_then, cond, if◌then◌else◌, refl, sym, ap, ◌∙◌, append-nil, append_assoc}
use Rattle.std.proofs.lemmas.List.{map-append}
use Rattle.std.specs.List.{list_any}
use Rattle.std.specs.Bool.{then_some}
use Rattle.std.specs.Map.{keys_of}
use Rattle.indexmap.specs.IndexMap.{insert_entry}
use Rattle.mx_json.specs.declared.members.Member.{Member}
use Rattle.mx_json.specs.declared.value.Json.{Json}
use Rattle.mx_rules.specs.Edits.{Entries, find, is_id}
use Rattle.mx_rules.specs.Reading.{Lists, add_all, add_entry, add_lists, are_new, asks_conditions, asks_nothing, asks_pattern, each, entries_in, entry_in, lists_in, rules_by, rules_in}
use Rattle.mx_rules.specs.Rules.{Rules, no_rules, rules_of}
use Rattle.mx_rules.specs.declared.rule.Rule.{Rule}
use Rattle.mx_rules.specs.declared.rule_set.RuleSet.{RuleSet}

module _ {T : Type 0} where
  found : (id : List ℕ) (es : Entries T) → is_some (find id es) ≡ list_any (is_id id) (keys_of es)
  found id [] = refl
  found id (e ∷ es) = by_test (is_id id e.0) (found id es)
    where
      by_test : (b : Bool) → is_some (find id es) ≡ list_any (is_id id) (keys_of es) → is_some (cond b (Some e.1) (find id es)) ≡ (b || list_any (is_id id) (keys_of es))
      by_test true rest = refl
      by_test false rest = rest

  -- a new id goes last
  goes_last : (id : List ℕ) (r : Rule T) (es : Entries T) → list_any (is_id id) (keys_of es) ≡ false → insert_entry is_id es id r ≡ es ++ (id, r) ∷ []
  goes_last id r [] new = refl
  goes_last id r (e ∷ es) new = by_test (is_id id e.0) new (goes_last id r es)
    where
      by_test : (b : Bool) → (b || list_any (is_id id) (keys_of es)) ≡ false → (list_any (is_id id) (keys_of es) ≡ false → insert_entry is_id es id r ≡ es ++ (id, r) ∷ [])
          → (if b then (e.0, r) ∷ es else e ∷ insert_entry is_id es id r) ≡ e ∷ (es ++ (id, r) ∷ [])
      by_test true h rest = cc
      by_test false h rest = ap (λ l. e ∷ l) (rest h)

  -- entries behind others, if their ids are new
  abbrev behind : Entries T → Entries T → Option (Entries T)
  behind es fs = if are_new (keys_of es) (keys_of fs) then Some (es ++ fs) else None

  behind_next : (es fs : Entries T) (e : List ℕ × Rule T) → list_any (is_id e.0) (keys_of es) ≡ false → behind (es ++ e ∷ []) fs ≡ behind es (e ∷ fs)
  behind_next es fs e new = rw (new, map-append (λ (p : List ℕ × Rule T). p.0) es (e ∷ []), append_assoc es (e ∷ []) fs) refl

  module _ (asks : List (Member Json) → Option (List ℕ × Rule T)) where
    adds : (js : List Json) (es : Entries T) → add_all asks js es ≡ option_and_then (behind es) (each (entry_in asks) js)
    adds [] es = ap Some (sym (append-nil es))
    adds (j ∷ js) es = by_entry (entry_in asks j) (adds js)
      where
        none : (o : Option (Entries T)) (e : List ℕ × Rule T) → list_any (is_id e.0) (keys_of es) ≡ true → None ≡ option_and_then (behind es) (option_map (λ fs. e ∷ fs) o)
        none None e old = refl
        none (Some fs) e old = rw old refl

        next : (o : Option (Entries T)) (e : List ℕ × Rule T) → list_any (is_id e.0) (keys_of es) ≡ false → option_and_then (behind (es ++ e ∷ [])) o ≡ option_and_then (behind es) (option_map (λ fs. e ∷ fs) o)
        next None e new = refl
        next (Some fs) e new = behind_next es fs e new

        by_test : (b : Bool) (e : List ℕ × Rule T) → list_any (is_id e.0) (keys_of es) ≡ b → ((fs : Entries T) → add_all asks js fs ≡ option_and_then (behind fs) (each (entry_in asks) js))
            → (if b then None else add_all asks js (insert_entry is_id es e.0 e.1)) ≡ option_and_then (behind es) (option_map (λ fs. e ∷ fs) (each (entry_in asks) js))
        by_test true e old rest = none (each (entry_in asks) js) e old
        by_test false e new rest = ap (add_all asks js) (goes_last e.0 e.1 es new) ∙ rest (es ++ e ∷ []) ∙ next (each (entry_in asks) js) e new

        by_entry : (o : Option (List ℕ × Rule T)) → ((fs : Entries T) → add_all asks js fs ≡ option_and_then (behind fs) (each (entry_in asks) js))
            → option_and_then (add_entry es (add_all asks js)) o ≡ option_and_then (behind es) (option_and_then (λ e. option_map (λ fs. e ∷ fs) (each (entry_in asks) js)) o)
        by_entry None rest = refl
        by_entry (Some e) rest = rw (found e.0 es) (by_test (list_any (is_id e.0) (keys_of es)) e refl rest)

    -- rules that are read one behind the other are those of the list
    pub adds_all : (js : List Json) → add_all asks js [] ≡ entries_in asks js
    adds_all js = adds js []

kept : {A B : Type 0} (f : A → B) (read : Bool) (x : A) → option_map f (then_some read x) ≡ (if read then Some (f x) else None)
kept f true x = refl
kept f false x = refl

-- the rules that a content says, by the lists of the kinds
pub rules_from : (j : Json) (l : Lists) (old : Rules) (rules : RuleSet) (read : Bool) (o : Option RuleSet)
    → old ≡ no_rules → Some l ≡ lists_in j → (if read then Some (rules_of rules) else None) ≡ add_lists l old → o ≡ then_some read rules
    → option_map rules_of o ≡ rules_in j
rules_from j l old rules read o none is made found = ap (option_map rules_of) found ∙ kept rules_of read rules ∙ made ∙ ap (add_lists l) none
    ∙ (rw (adds_all asks_conditions l.override_rules, adds_all asks_pattern l.content, adds_all asks_nothing l.room, adds_all asks_nothing l.sender, adds_all asks_conditions l.underride)
    (ap (option_and_then rules_by) is))
