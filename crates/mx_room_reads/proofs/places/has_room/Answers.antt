use Rattle.std.proofs.Common.{◌==◌, not, ap, ◌∙◌}
use Rattle.mx_rest.specs.Servers.{lists_of}
use Rattle.mx_room_reads.proofs.Placed.{room_is}
use Rattle.mx_room_reads.proofs.places.has_room.Goals as goal

pub returns : goal.returns
returns c = ap (λ n. not (n == 0)) c.last_in.ensures ∙ room_is (lists_of c.args.snapshot.now) c.args.room.now c.front-front.ensures.placed
