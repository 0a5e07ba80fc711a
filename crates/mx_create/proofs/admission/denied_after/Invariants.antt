use Rattle.std.proofs.Common.{◌≡◌, drop}
use Rattle.mx_create.specs.Admitted.{first_denied}
use Rattle.mx_create.proofs.admission.denied_after.Given as goal

abbrev pub invariant-events : goal.invariant-events
invariant-events l = first_denied l.state.events (drop l.event-index l.events) ≡ first_denied l.initial.state.events l.events
