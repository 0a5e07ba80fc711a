-- What comes last in a list: the last item that passes a test, the last few items, the last item of each key.
use Rattle.std.specs.Prelude.{ℕ, ◌-◌, Bool, cond, List, [], ◌∷◌, length, drop}
use Rattle.std.specs.Prelude.{Option, Some, None}
use Rattle.std.specs.Option.{option_or}
use Rattle.std.specs.List.{list_any}

-- the last item that passes
abbrev pub last_of : {E : Type 0} → (E → Bool) → List E → Option E
last_of test [] = None
last_of test (e ∷ es) = option_or (last_of test es) (cond (test e) (Some e) None)

-- the position of an item, or a default where there is none
abbrev pub last_at : {E : Type 0} → (E → ℕ) → ℕ → Option E → ℕ
last_at at low None = low
last_at at low (Some e) = at e

-- the last n items, or all where there are fewer
abbrev pub last : {E : Type 0} → ℕ → List E → List E
last n es = drop (length es - n) es

-- the items that no later one of the same key follows
abbrev pub current : {E : Type 0} → (E → E → Bool) → List E → List E
current same [] = []
current same (e ∷ es) = cond (list_any (same e) es) (current same es) (e ∷ current same es)

-- the item there, if it is picked
abbrev pub keep_if : {E : Type 0} → (E → Bool) → Option E → Option E
keep_if pick None = None
keep_if pick (Some e) = cond (pick e) (Some e) None
