-- A walk over the types of a room: what was found and what is left make up all.
use Rattle.std.proofs.Common.{◌≡◌, ℕ, List, [], ◌∷◌, ◌++◌, String, append-nil, append_assoc, ap, sym, ◌∙◌, refl}
use Rattle.std.specs.BTreeMap as tree
use Rattle.std.specs.String.{string_cmp}
use Rattle.std.specs.declared.alloc.Global.{Global}
use Rattle.mx_snapshot.specs.LastVersions.{EachOrdered, key_lasts, kind_lasts}
use Rattle.mx_snapshot.specs.Lists.{Keys}

pub record Walked (last : ℕ) (found : List ℕ) (left all : List (String Global × Keys)) : Type 0 where
  pub lasts : found ++ kind_lasts last left ≡ kind_lasts last all
  pub ordered : EachOrdered left → EachOrdered all

pub begun : (last : ℕ) (all : List (String Global × Keys)) → Walked last [] all all
begun last all = record { lasts = refl; ordered = λ each. each }

pub next : (last : ℕ) (old new : List ℕ) (kind : String Global) (keys : Keys) (left all : List (String Global × Keys)) → Walked last old ((kind, keys) ∷ left) all
    → tree.IsOrdered string_cmp keys → new ≡ old ++ key_lasts last keys.entries → Walked last new left all
next last old new kind keys left all was order pushed = record {
  lasts = ap (λ l. l ++ kind_lasts last left) pushed ∙ append_assoc old (key_lasts last keys.entries) (kind_lasts last left) ∙ was.lasts;
  ordered = λ each. was.ordered (order, each);
}

pub ended : (last : ℕ) (found : List ℕ) (all : List (String Global × Keys)) → Walked last found [] all → (found ≡ kind_lasts last all) × EachOrdered all
ended last found all was = (sym (append-nil found) ∙ was.lasts, was.ordered tt)
