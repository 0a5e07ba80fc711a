-- Laws of redaction, over every event.
use Rattle.std.specs.Prelude.{◌≡◌, ℕ, ◌<◌, List, ◌++◌}
use Rattle.std.specs.List.{AllByRecursion}
use Rattle.mx_event.specs.Redaction.{redacted}
use Rattle.mx_event.specs.Shown.{names, shown_with}
use Rattle.mx_event.specs.declared.event.Event.{Event}

-- what is redacted stays as it is when it is redacted again
abbrev pub RedactsOnce : Type 0
RedactsOnce = (e : Event) → redacted (redacted e) ≡ redacted e

-- a redacted redaction names what it named
abbrev pub NamesStay : Type 0
NamesStay = (e : Event) (at : ℕ) → names (redacted e) at ≡ names e at

-- events after a front don't change how an event is shown at it
abbrev pub ShownStays : Type 0
ShownStays = (es later : List Event) (v : Event) (front : ℕ) → AllByRecursion (λ (e : Event). front < e.id.at) later → shown_with (es ++ later) v front ≡ shown_with es v front
