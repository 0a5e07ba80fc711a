use Rattle.std.proofs.Common.{◌++◌, List, sym, ap, subst, ◌∙◌}
use Rattle.mx_event.specs.Lawful.{of_room}
use Rattle.mx_event.specs.Valid.{IsValid}
use Rattle.mx_event.specs.declared.event.Event.{Event}
use Rattle.mx_lanes.specs.Parts.{Taken}
use Rattle.tests_sync.proofs.ValidRooms.{rooms_valid}
use Rattle.tests_sync.proofs.built.known.Goals as goal

pub advance-requires-2-clause-begins : goal.advance-requires-2-clause-begins
advance-requires-2-clause-begins g c = (c.in_ok-entries.entries.items, ap (λ l. l ++ c.in_ok-entries.entries.items) (sym c.new-known.ensures.accounts))

pub returns : goal.returns
returns g c = λ r. subst (λ (l : List Event). IsValid (of_room r l))
    (sym (c.in_ok-advance.ensures.ok ∙ ap (λ (p : Taken Event). p.items) c.in_ok-parts.ensures ∙ c.deref.ensures.value))
    (rooms_valid c.in_ok-made.made.items c.in_ok-made.ensures r)
