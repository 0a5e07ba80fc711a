use Rattle.std.proofs.Common.{◌∙◌}
use Rattle.mx_folding.specs.Sections.{sendable}
use Rattle.mx_parts.specs.Readings.{events_of, front_of, room_in}
use Rattle.mx_snapshot.specs.Looks.{all_now}
use Rattle.mx_parts.proofs.Settled.{latest_is, more_is}
use Rattle.mx_parts.proofs.latest.last_sendable.Goals as goal

pub returns-clause-events : goal.returns-clause-events
returns-clause-events c =
    let v = c.args.reading.now in
    let walked = c.in_ok-found.ensures in
    c.in_order-latest.ensures.events
    ∙ latest_is (sendable (room_in v) (events_of v) (front_of v) c.args.low c.args.high) walked.0 (all_now c.in_ok-found.found.items) c.args.most walked.1 walked.2

pub returns-clause-more : goal.returns-clause-more
returns-clause-more c =
    let v = c.args.reading.now in
    let walked = c.in_ok-found.ensures in
    c.in_order-latest.ensures.more
    ∙ more_is (sendable (room_in v) (events_of v) (front_of v) c.args.low c.args.high) walked.0 (all_now c.in_ok-found.found.items) c.args.most walked.1 walked.2
