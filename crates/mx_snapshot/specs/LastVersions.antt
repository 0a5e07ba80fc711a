-- What a walk over all keys of a room finds: the last position of each, up to a position.
use Rattle.std.specs.Prelude.{ℕ, List, String, nat_le}
use Rattle.std.specs.BTreeMap as tree
use Rattle.std.specs.Global.{Vec}
use Rattle.std.specs.List.{AllByRecursion, flat_map}
use Rattle.std.specs.Option.{option_to_list}
use Rattle.std.specs.String.{string_cmp}
use Rattle.std.specs.declared.alloc.Global.{Global}
use Rattle.mx_window.specs.Lasts.{last_of}
use Rattle.mx_snapshot.specs.Lists.{Keys, Kinds, always}

abbrev pub last_upto : ℕ → List ℕ → List ℕ
last_upto last positions = option_to_list (last_of (λ p. nat_le p last) positions)

abbrev pub key_lasts : ℕ → List (String Global × Vec ℕ) → List ℕ
key_lasts last es = flat_map (λ (e : String Global × Vec ℕ). last_upto last e.1.items) es

abbrev pub kind_lasts : ℕ → List (String Global × Keys) → List ℕ
kind_lasts last es = flat_map (λ (e : String Global × Keys). key_lasts last e.1.entries) es

-- the keys of each map ascend
abbrev pub EachOrdered : List (String Global × Keys) → Type 0
EachOrdered es = AllByRecursion (λ (e : String Global × Keys). tree.IsOrdered string_cmp e.1) es

abbrev pub AreOrdered : Kinds → Type 0
AreOrdered kinds = tree.IsOrdered string_cmp kinds × EachOrdered kinds.entries

-- the last position of each key
abbrev pub key_tops : List (String Global × Vec ℕ) → List ℕ
key_tops es = flat_map (λ (e : String Global × Vec ℕ). option_to_list (last_of always e.1.items)) es
