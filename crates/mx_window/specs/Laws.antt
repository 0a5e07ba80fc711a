-- The laws of windows. Each is proved for items of any type, whatever their positions are read from.
use Rattle.std.specs.Prelude.{◌≡◌, ℕ, ◌≤◌, Bool, true, false, List, ◌++◌}
use Rattle.std.specs.List.{filter, list_any}
use Rattle.std.specs.Option.{option_or}
use Rattle.mx_window.specs.Windows.{Ascends, between, before_first}
use Rattle.mx_window.specs.Lasts.{last_of, last_at, last, current, keep_if}

-- a window is its two halves, joined
abbrev pub WindowsJoin : Type 0 → Type 0
WindowsJoin E = (at : E → ℕ) (low mid high base : ℕ) (es : List E) → Ascends at base es → low ≤ mid → mid ≤ high
    → between at low high es ≡ between at low mid es ++ between at mid high es

-- a window of a window is a window of the whole list
abbrev pub WindowsNest : Type 0 → Type 0
WindowsNest E = (at : E → ℕ) (low high first end : ℕ) (es : List E) → first ≤ low → high ≤ end
    → between at low high (between at first end es) ≡ between at low high es

-- the last few passing items of a window are the passing items of a window: the one that begins before the first of them
abbrev pub LatestAreWindow : Type 0 → Type 0
LatestAreWindow E = (at : E → ℕ) (test : E → Bool) (n low high base : ℕ) (es : List E) → Ascends at base es → low ≤ high
    → (q : ℕ) → q ≡ before_first at high (last n (filter test (between at low high es)))
    → (last n (filter test (between at low high es)) ≡ filter test (between at q high es)) × (low ≤ q) × (q ≤ high)

-- the last passing item of joined lists is that of the second, else that of the first
abbrev pub LastOfJoined : Type 0 → Type 0
LastOfJoined E = (test : E → Bool) (xs ys : List E) → last_of test (xs ++ ys) ≡ option_or (last_of test ys) (last_of test xs)

-- no item of a window after its last passing one passes
abbrev pub NonePassesAfterLast : Type 0 → Type 0
NonePassesAfterLast E = (at : E → ℕ) (test : E → Bool) (low high base : ℕ) (es : List E) → Ascends at base es → low ≤ high
    → (b : ℕ) → b ≡ last_at at low (last_of test (between at low high es))
    → (low ≤ b) × (b ≤ high) × (list_any test (between at b high es) ≡ false)

-- among the current items that are picked, the last of a key is the last of that key in the list, if it is picked
abbrev pub CurrentByKey : Type 0 → Type 0
CurrentByKey E = (same : E → E → Bool) (has : E → Bool) → ((e f : E) → has e ≡ true → same e f ≡ has f) → (pick : E → Bool) (es : List E)
    → last_of has (filter pick (current same es)) ≡ keep_if pick (last_of has es)
