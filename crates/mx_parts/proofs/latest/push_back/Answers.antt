use Rattle.std.proofs.Common.{ap, reverse, ◌++◌, ◌∙◌}
use Rattle.std.specs.Borrow.{Bor}
use Rattle.std.proofs.lemmas.List.{map-append}
use Rattle.mx_event.specs.declared.event.Event.{Event}
use Rattle.mx_snapshot.specs.Looks.{all_now}
use Rattle.mx_parts.proofs.Reached.{reverse_now}
use Rattle.mx_parts.proofs.latest.push_back.Goals as goal

pub returns : goal.returns
returns c =
    ap all_now c.in_ok-extend_from_slice.ensures.items
    ∙ map-append (λ (b : Bor Event). b.now) c.args.found.now.items c.deref.result.now
    ∙ ap (λ l. all_now c.args.found.now.items ++ l) (ap all_now (c.deref.ensures.value ∙ c.reverse.ensures.items) ∙ reverse_now c.in_ok-sent.sent.items ∙ ap reverse c.in_ok-sent.ensures)
