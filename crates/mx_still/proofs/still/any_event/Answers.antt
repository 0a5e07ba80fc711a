use Rattle.std.proofs.Common.{◌-◌, ◌+◌, ◌||◌, ◌∙◌, ap, sym, arith}
use Rattle.mx_event.specs.declared.event.Event.{Event}
use Rattle.mx_rest.specs.Servers.{lists_of}
use Rattle.mx_still.specs.Concerns.{any_event, has_member}
use Rattle.mx_still.proofs.Late.{earlier}
use Rattle.mx_still.proofs.still.any_event.Goals as goal

pub returns-then-event_concerns : goal.returns-then-event_concerns
returns-then-event_concerns c =
    let lists = lists_of c.args.snapshot.now in
    sym (earlier (λ (x : Event). has_member c.args.user.now lists x.room) c.args.low (c.events.passed - 1) lists.events (omega arith)
    (sym c.event_concerns.ensures ∙ ap (λ b. b || any_event c.args.user.now lists (c.events.passed - 1 + 1)) c.if-event_concerns.true))
