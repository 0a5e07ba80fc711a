-- What an accept does to the pairs, where the listener tells them.
use Rattle.std.specs.Prelude.{◌≡◌, List, [], ◌∷◌, IfSome}
use Rattle.std.specs.declared.option.Option.{Option}
use Rattle.mx_outside.specs.declared.listener.Accepted.{Accepted}
use Rattle.mx_outside.specs.declared.listener.Accepted.TheVariants as accepted

-- the pairs that were left begin with the one that was given, and lose it; the end comes only where
-- none was left, and a failed accept loses none
abbrev pub Gives : {A B : Type 0} → Option (List (A × B)) → Option (List (A × B)) → Accepted A B → Type 0
Gives old new (accepted.Pair a b) = IfSome old (λ ps. IfSome new (λ qs. ps ≡ (a, b) ∷ qs))
Gives old new accepted.Closed = IfSome old (λ ps. ps ≡ []) × (new ≡ old)
Gives old new accepted.Failed = new ≡ old
