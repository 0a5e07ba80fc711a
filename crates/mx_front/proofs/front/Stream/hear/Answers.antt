use Rattle.std.proofs.Common.{rules}
use Rattle.mx_front.proofs.Allowed.{parts_at, hears_at, learns_at}
use Rattle.mx_front.proofs.Meetings.{has_heard}
use Rattle.mx_front.proofs.front.Stream.hear.Goals as goal

pub split_seat-seen-requires : goal.split_seat-seen-requires
split_seat-seen-requires g c = (search rules, search rules, parts_at _ _ _ _)

pub join_seat-requires : goal.join_seat-requires
join_seat-requires g c = (search rules, search rules, search rules, search rules, hears_at _ _ _ _ _ _)

pub load-requires : goal.load-requires
load-requires g c = (search rules, search rules, learns_at _ _ _ _ _)

pub returns-clause-seat : goal.returns-clause-seat
returns-clause-seat g c = (has_heard g.I.Placed.lawful c.args.other.now.me _ c.args.seat.now.me _ _ c.split_seat-seen.ensures.4 c.join_seat.ensures.2 c.load.ensures.2).0

pub returns-clause-learned : goal.returns-clause-learned
returns-clause-learned g c = (has_heard g.I.Placed.lawful c.args.other.now.me _ c.args.seat.now.me _ _ c.split_seat-seen.ensures.4 c.join_seat.ensures.2 c.load.ensures.2).1
