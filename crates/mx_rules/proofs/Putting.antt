-- A new key among entries.
use Rattle.std.proofs.Common.{ℕ, ◌≡◌, ◌∷◌, ◌++◌, [], List, Option, Some, length, slice_get, refl, ap, ap₂}
use Rattle.std.specs.List.{insert, remove}
use Rattle.std.specs.Option.{option_map_or}
use Rattle.indexmap.specs.IndexMap.{move_index}

module _ {X : Type 0} where
  without_last : (es : List X) (e : X) → remove (es ++ e ∷ []) (length es) ≡ es
  without_last [] e = refl
  without_last (x ∷ es) e = ap (λ ys. x ∷ ys) (without_last es e)

  at_last : (es : List X) (e : X) → slice_get (es ++ e ∷ []) (length es) ≡ Some e
  at_last [] e = refl
  at_last (x ∷ es) e = at_last es e

  -- the last item moved to an index stands there
  pub last_moved : (es : List X) (e : X) (at : ℕ) → move_index (es ++ e ∷ []) (length es) at ≡ insert es at e
  last_moved es e at = ap₂ (λ (l : List X) (o : Option X). option_map_or (λ x. insert l at x) o (es ++ e ∷ [])) (without_last es e) (at_last es e)
