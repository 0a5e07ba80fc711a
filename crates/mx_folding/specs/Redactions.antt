-- Redactions: which events are redacted by a front, what is shown of them, and what a list of new events redacts.
use Rattle.std.specs.Prelude.{ℕ, Bool, false, cond, ◌==◌, List, Option, Some, None}
use Rattle.std.specs.List.{list_any}
use Rattle.mx_window.specs.Windows.{between}
use Rattle.mx_folding.specs.Rooms.{Room}

abbrev pub is_some_of : Option ℕ → ℕ → Bool
is_some_of None p = false
is_some_of (Some n) p = n == p

-- an event of the list redacts the one at p
abbrev pub is_named : {E K : Type 0} → Room E K → List E → ℕ → Bool
is_named r es p = list_any (λ e. is_some_of (r.names e) p) es

-- a redaction after the event and up to the front names it
abbrev pub is_redacted : {E K : Type 0} → Room E K → List E → ℕ → E → Bool
is_redacted r es front e = is_named r (between r.at (r.at e) front es) (r.at e)

-- the event as it is sent at the front
abbrev pub shown : {E K : Type 0} → Room E K → List E → ℕ → E → E
shown r es front e = cond (is_redacted r es front e) (r.red e) e

-- a copy, after the redactions among new events
abbrev pub redact_by : {E K : Type 0} → Room E K → List E → E → E
redact_by r by c = cond (is_named r by (r.at c)) (r.red c) c
