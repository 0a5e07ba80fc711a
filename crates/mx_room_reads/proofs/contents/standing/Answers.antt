use Rattle.mx_event.specs.Kinds.{has_key}
use Rattle.mx_rest.specs.Servers.{lists_of}
use Rattle.mx_room_reads.proofs.Listed.{last_listed}
use Rattle.mx_room_reads.proofs.contents.standing.Goals as goal

pub returns-clause-listed : goal.returns-clause-listed
returns-clause-listed c =
    last_listed (lists_of c.args.snapshot.now) c.args.room.now c.front.ensures.placed (has_key c.as_str.result.now c.as_str-2.result.now)
    c.unwrap_or-place.result c.last_of.result c.last_of.ensures
