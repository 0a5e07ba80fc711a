-- Changes of the rules of one kind, which are a list of ids and rules (Client-Server API, Push rules).
use Rattle.std.specs.Prelude.{ℕ, ◌+◌, Bool, true, false, not, List, [], ◌∷◌, length, position, Option, Some, None, is_some, nat_eq, if◌then◌else◌, codes}
use Rattle.std.specs.List.{insert}
use Rattle.std.specs.Cmp.Lexicographic.{pointwise}
use Rattle.std.specs.Map.{keys_of, lookup, set_value}
use Rattle.std.specs.Option.{option_map_or}
use Rattle.std.specs.Str.{bytes_eq}
use Rattle.indexmap.specs.IndexMap.{insert_entry, shift_remove_entry}
use Rattle.mx_json.specs.Fields.{field}
use Rattle.mx_json.specs.declared.value.Json.{Json}
use Rattle.mx_rules.specs.Bodies.{items_of}
use Rattle.mx_rules.specs.Forms.{are_actions}
use Rattle.mx_rules.specs.declared.fault.RuleFault.{RuleFault}
use Rattle.mx_rules.specs.declared.fault.RuleFault.TheVariants as faults
use Rattle.mx_rules.specs.declared.fault.Side.{Side}
use Rattle.mx_rules.specs.declared.fault.Side.TheVariants as sides
use Rattle.mx_rules.specs.declared.rule.Rule.{Rule}

abbrev pub is_id : List ℕ → List ℕ → Bool
is_id = pointwise nat_eq

-- the rules of one kind, in order
abbrev pub Entries : Type 0 → Type 0
Entries T = List (List ℕ × Rule T)

abbrev pub at_or : ℕ → Option ℕ → ℕ
at_or end None = end
at_or end (Some i) = i

abbrev pub behind_or : ℕ → Option ℕ → ℕ
behind_or end None = end
behind_or end (Some i) = i + 1

module _ {T : Type 0} where
  abbrev pub find : List ℕ → Entries T → Option (Rule T)
  find id es = lookup (is_id id) es

  abbrev pub without : List ℕ → Entries T → Entries T
  without id es = shift_remove_entry (is_id id) es

  -- where a rule stands, and where the one behind it stands
  abbrev pub before_id : List ℕ → Entries T → ℕ
  before_id id es = at_or (length es) (position (is_id id) (keys_of es))

  abbrev pub behind_id : List ℕ → Entries T → ℕ
  behind_id id es = behind_or (length es) (position (is_id id) (keys_of es))

  -- behind `.m.rule.master` where that stands first, else at the front
  abbrev pub behind_master : Entries T → ℕ
  behind_master [] = 0
  behind_master (e ∷ es) = if bytes_eq e.0 (codes ".m.rule.master") then 1 else 0

  -- a rule right before a neighbour; beside itself it keeps its place
  abbrev pub put_before : List ℕ → Rule T → List ℕ → Entries T → Entries T
  put_before id r neighbour es = if is_id neighbour id then insert_entry is_id es id r
      else insert (without id es) (before_id neighbour (without id es)) (id, r)

  abbrev pub put_behind : List ℕ → Rule T → List ℕ → Entries T → Entries T
  put_behind id r neighbour es = if is_id neighbour id then insert_entry is_id es id r
      else insert (without id es) (behind_id neighbour (without id es)) (id, r)

  -- how the code puts a rule beside a neighbour
  abbrev pub place_beside : Side → List ℕ → Entries T → ℕ
  place_beside sides.Before neighbour es = before_id neighbour es
  place_beside sides.After neighbour es = behind_id neighbour es

  abbrev pub put_beside : Side → List ℕ → Rule T → List ℕ → Entries T → Entries T
  put_beside side id r neighbour es = if is_id neighbour id then insert_entry is_id es id r
      else insert (without id es) (place_beside side neighbour (without id es)) (id, r)

  -- without neighbours a rule keeps its place, and a new one goes first
  abbrev pub put_unplaced : List ℕ → Rule T → Entries T → Entries T
  put_unplaced id r es = if is_some (find id es) then insert_entry is_id es id r else insert es (behind_master es) (id, r)

  -- `before` decides where both are named
  abbrev pub put_in : List ℕ → Rule T → Option (List ℕ) → Option (List ℕ) → Entries T → Entries T
  put_in id r (Some before) after es = put_before id r before es
  put_in id r None (Some after) es = put_behind id r after es
  put_in id r None None es = put_unplaced id r es

  abbrev pub is_enabled : Option (Rule T) → Bool
  is_enabled None = true
  is_enabled (Some r) = r.enabled

  -- the rule of a body, enabled as the one that has its id
  abbrev pub new_rule : T → List ℕ → Json → Entries T → Rule T
  new_rule test id body es = record {
    default = false;
    enabled = is_enabled (find id es);
    actions = items_of (field (codes "actions") body);
    test = test;
  }

  abbrev pub is_of_user : Option (Rule T) → Bool
  is_of_user None = false
  is_of_user (Some r) = not r.default

  -- a neighbour that is named is a user's rule
  abbrev pub has_neighbour : Option (List ℕ) → Entries T → Bool
  has_neighbour None es = true
  has_neighbour (Some id) es = is_of_user (find id es)

  abbrev pub neighbour_fault : Option (List ℕ) → Option (List ℕ) → Entries T → Option RuleFault
  neighbour_fault before after es = if not (has_neighbour before es) then Some (faults.NoNeighbour sides.Before)
      else (if not (has_neighbour after es) then Some (faults.NoNeighbour sides.After) else None)

  abbrev pub no_rule : List ℕ → Entries T → Option RuleFault
  no_rule id es = if is_some (find id es) then None else Some faults.NoRule

  abbrev pub action_fault : List ℕ → Json → Entries T → Option RuleFault
  action_fault id actions es = if is_some (find id es) then (if are_actions (Some actions) then None else Some faults.BadAction) else Some faults.NoRule

  -- the rule of an id as a function changes it
  abbrev pub changed : (Rule T → Rule T) → List ℕ → Entries T → Entries T
  changed f id es = option_map_or (λ r. set_value (is_id id) es (f r)) (find id es) es

  abbrev pub with_enabled : Bool → List ℕ → Entries T → Entries T
  with_enabled on id es = changed (λ r. record r { enabled = on }) id es

  abbrev pub with_actions : List Json → List ℕ → Entries T → Entries T
  with_actions js id es = changed (λ r. record r { actions = js }) id es
