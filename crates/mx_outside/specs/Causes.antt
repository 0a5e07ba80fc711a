-- When an object may answer that it failed.
use Rattle.std.specs.Prelude.{◌≡◌, ℕ, ◌+◌, ◌-◌, ◌^◌, ◌≤◌, min}
use Rattle.mx_outside.specs.declared.source.Took.{Took}
use Rattle.mx_outside.specs.declared.source.Took.TheVariants as took

-- the count of faults rose, or stands at its last value
abbrev pub Rose : ℕ → ℕ → Type 0
Rose before now = min (before + 1) (2 ^ 64 - 1) ≤ now

-- no fault was counted, unless the take failed
abbrev pub CountsFailed : Took → ℕ → ℕ → Type 0
CountsFailed (took.Got n) before now = now ≡ before
CountsFailed took.End before now = now ≡ before
CountsFailed took.Failed before now = Unit {0}
