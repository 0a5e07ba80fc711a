use Rattle.std.proofs.Common.{◌≡◌, IfOk, List, ap, subst}
use Rattle.mx_auth.specs.Standing.{Standing}
use Rattle.mx_event.specs.declared.event.Event.{Event}
use Rattle.mx_create.specs.Admitted.{first_denied}
use Rattle.mx_create.proofs.admission.first_denied.Goals as goal

pub returns : goal.returns
returns c =
    subst (λ (es : List Event). IfOk c.denied_after-denied.result (λ rule. first_denied es c.args.events.now ≡ rule)) (ap (λ (s : Standing). s.events) c.empty-state.ensures) c.denied_after-denied.ensures
