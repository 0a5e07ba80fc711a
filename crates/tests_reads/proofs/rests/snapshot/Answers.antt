use Rattle.std.proofs.Common.{List, refl, sym, subst}
use Rattle.std.proofs.lemmas.Result.{IfOk-weaker}
use Rattle.mx_event.specs.Lawful.{of_room}
use Rattle.mx_event.specs.Valid.{IsValid}
use Rattle.mx_event.specs.declared.event.Event.{Event}
use Rattle.tests_reads.proofs.rests.snapshot.Goals as goal

pub returns : goal.returns
returns g c = IfOk-weaker c.snapshot.result _ _ (λ known same r. subst (λ (l : List Event). IsValid (of_room r l)) (sym same) record { ascends = tt; valid = refl }) c.snapshot.ensures
