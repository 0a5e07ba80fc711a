use Rattle.std.proofs.Common.{ap, sym, true, false, ◌∙◌}
use Rattle.std.specs.Option.{option_copied}
use Rattle.mx_rest.specs.Servers.{lists_of}
use Rattle.mx_room_reads.proofs.Seen.{at_listed, at_none, at_some}
use Rattle.mx_room_reads.proofs.lone_events.at_position.Goals as goal

pub returns-in_err-event-clause-found : goal.returns-in_err-event-clause-found
returns-in_err-event-clause-found c =
    ap option_copied c.from_residual.ensures
    ∙ at_none (lists_of c.args.snapshot.now) c.args.room.now c.front-front.ensures.placed c.args.position (sym c.in_err-event.ensures)

pub returns-then-eq-clause-found : goal.returns-then-eq-clause-found
returns-then-eq-clause-found c =
    at_some (lists_of c.args.snapshot.now) c.args.room.now c.front-front.ensures.placed c.args.position c.in_ok-event.event.now true (sym c.in_ok-event.ensures)
    (sym c.eq.ensures ∙ c.if-eq.true)

pub returns-then-eq-clause-listed : goal.returns-then-eq-clause-listed
returns-then-eq-clause-listed c =
    at_listed (lists_of c.args.snapshot.now) c.args.room.now c.front-front.ensures.placed c.args.position c.in_ok-event.event.now
    (returns-then-eq-clause-found c)

pub returns-else-eq-clause-found : goal.returns-else-eq-clause-found
returns-else-eq-clause-found c =
    at_some (lists_of c.args.snapshot.now) c.args.room.now c.front-front.ensures.placed c.args.position c.in_ok-event.event.now false (sym c.in_ok-event.ensures)
    (sym c.eq.ensures ∙ c.if-eq.false)
