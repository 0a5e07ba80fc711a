-- How a loop ends.
use Rattle.std.specs.Prelude.{◌≡◌, ℕ, List, [], Option, IfSome}
use Rattle.mx_outside.specs.Causes.{Rose}
use Rattle.mx_loop.specs.declared.looping.Looped.{Looped}
use Rattle.mx_loop.specs.declared.looping.Looped.TheVariants as looped

-- no port comes any more, where the listener tells its ports
abbrev pub HasNone : {P : Type 0} → Option (List P) → Type 0
HasNone left = IfSome left (λ ps. ps ≡ [])

-- each end has its cause
abbrev pub EndsFor : {P : Type 0} → Looped → Option (List P) → ℕ → ℕ → Type 0
EndsFor looped.Closed left before after = HasNone left
EndsFor looped.ListenFailed left before after = Rose before after
EndsFor (looped.Memory refused) left before after = Unit {0}
