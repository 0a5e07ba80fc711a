-- The last item under each key, in the order of the keys.
use Rattle.std.specs.Prelude.{List, [], fold}
use Rattle.std.specs.BTreeMap.{insert_entry}
use Rattle.std.specs.declared.cmp.Ordering.{Ordering}

abbrev pub set_item : {K X V : Type 0} → (K → K → Ordering) → (X → K) → (X → V) → List (K × V) → X → List (K × V)
set_item cmp key value m x = insert_entry cmp m (key x) (value x)

-- under each key of these items the value of the last one
abbrev pub latest : {K X V : Type 0} → (K → K → Ordering) → (X → K) → (X → V) → List X → List (K × V)
latest cmp key value xs = fold (set_item cmp key value) [] xs

-- the entries of the first, with those of the second put over them
abbrev pub over : {K V : Type 0} → (K → K → Ordering) → List (K × V) → List (K × V) → List (K × V)
over {K} {V} cmp m d = fold (set_item cmp (λ (p : K × V). p.0) (λ (p : K × V). p.1)) m d
