use Rattle.std.proofs.Common.{◌≡◌, ℕ, List, drop, ◌||◌}
use Rattle.std.specs.List.{list_any}
use Rattle.std.specs.Str.{bytes_eq}
use Rattle.mx_event.specs.declared.event.Event.{Event}
use Rattle.mx_snapshot.specs.Looks.{all_now}
use Rattle.mx_lazy.specs.Picks.{has_sender}
use Rattle.mx_lazy.proofs.picker.senders.Given as goal

abbrev pub invariant-events : goal.invariant-events
invariant-events l = (t : List ℕ) → (has_sender l.senders t || list_any (λ (e : Event). bytes_eq e.sender t) (all_now (drop l.event-index l.events))) ≡ list_any (λ (e : Event). bytes_eq e.sender t) (all_now l.events)
