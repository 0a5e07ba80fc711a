use Rattle.std.proofs.Common.{◌≡◌, true, List, sym, subst, ◌∙◌}
use Rattle.std.proofs.lemmas.Result.{IfOk-weaker}
use Rattle.mx_window.specs.Windows.{stand_from}
use Rattle.mx_event.specs.Lawful.{of_room}
use Rattle.mx_event.specs.Shown.{position_of}
use Rattle.mx_event.specs.Valid.{IsValid}
use Rattle.mx_event.specs.declared.event.Event.{Event}
use Rattle.tests_reads.proofs.Built.{rooms_valid}
use Rattle.tests_reads.proofs.unread.snapshot.Goals as goal

pub snapshot-requires-clause-events : goal.snapshot-requires-clause-events
snapshot-requires-clause-events g c = subst (λ (l : List Event). stand_from position_of 1 l ≡ true) (sym c.deref.ensures.value) c.in_ok-events.ensures.placed

pub returns : goal.returns
returns g c = IfOk-weaker c.snapshot.result _ _ (λ known same r. subst (λ (l : List Event). IsValid (of_room r l)) (sym (same ∙ c.deref.ensures.value))
    (rooms_valid c.in_ok-events.events.items c.in_ok-events.ensures r)) c.snapshot.ensures
